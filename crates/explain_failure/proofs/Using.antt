-- What lines use, computed, is what the refutation uses.
use Prim.Native.Nat.{zero, suc}
use Rattle.std.proofs.Common.{◌≡◌, ◌↔◌, ℕ, ◌+◌, ◌<◌, ◌≤◌, Bool, true, false, ◌||◌, ◌&&◌, List, [], ◌∷◌, ◌++◌, Option, Some, None, inl, inr, length, refl, sym, ◌∙◌, subst, ap, arith, eqb, slice_get}
use Rattle.std.proofs.lemmas.Bool.{false≢true, or_cases, or_left, or_right, and_parts, and_from, cases_Bool}
use Rattle.std.proofs.lemmas.Bool.Decides.{eqb_tells}
use Rattle.std.proofs.lemmas.Option.{same_Some, none-some}
use Rattle.clause_store.specs.declared.Lit.{Lit}
use Rattle.clause_store.specs.Clauses.{at_id}
use Rattle.proof_log.specs.declared.line.Line.{Line}
use Rattle.proof_log.specs.declared.line.Line.TheVariants.{Header, Learnt, Zero, One, Unsat, Spent, End}
use Rattle.proof_log.specs.Derivations.{DerivesFrom, IsDerived}
use Rattle.proof_log.specs.Lines.{added, with_added, settles, ends, LastIs, EachLine, EndsLast}
use Rattle.proof_log.specs.Logs.{LineHolds, IsSound}
use Rattle.proof_log.proofs.Ids.{at_id-within}
use Rattle.explain_failure.specs.Uses.{stands, UsesIn, Uses, chain_of, is_user, used_by}

-- the ids of chains are those of known clauses
abbrev pub IdsUpTo : ℕ → List ℕ → Type 0
IdsUpTo n ids = (x : ℕ) → stands ids x ≡ true → x ≤ n

within : (known : List (List Lit)) (id : ℕ) (c : List Lit) → at_id known id ≡ Some c → id ≤ length known
within known id c e = let h = at_id-within known id c e in omega (arith, h.0, h.1)

cons-up : (n id : ℕ) (ids : List ℕ) → id ≤ n → IdsUpTo n ids → IdsUpTo n (id ∷ ids)
cons-up n id ids h f x e = elim (or_cases (eqb id x) (stands ids x) e) [
  | inl p ↦ elim (eqb_tells id x) [ inl q ↦ omega (arith, h, q.1) | inr q ↦ absurd (false≢true (sym q.0 ∙ p)) ]
  | inr p ↦ f x p
]

derives-up : (known : List (List Lit)) (a : List Lit) (ids : List ℕ) (c : List Lit) → DerivesFrom known a ids c → IdsUpTo (length known) ids
derives-up known a [] c d = λ x e. absurd (false≢true e)
derives-up known a (id ∷ ids) c d = cons-up (length known) id ids (within known id d.0 d.3) (derives-up known d.1 ids c d.5)

derived-up : (known : List (List Lit)) (ids : List ℕ) (c : List Lit) → IsDerived known ids c → IdsUpTo (length known) ids
derived-up known [] c d = absurd d
derived-up known (id ∷ ids) c d = cons-up (length known) id ids (within known id d.0 d.1) (derives-up known d.0 ids c d.2)

-- a line's own id, and the ids of its chain, where it holds
line-up : (bits : List Lit) (known : List (List Lit)) (n : ℕ) (l : Line) → LineHolds bits known n l → IdsUpTo (length known) (chain_of l)
line-up bits known n (Learnt id c chain) h = derived-up known chain c h.2
line-up bits known n (Unsat chain) h = derived-up known chain [] h
line-up bits known n (Header vars clauses m) h = absurd h
line-up bits known n (Zero id b) h = λ x e. absurd (false≢true e)
line-up bits known n (One id b chain) h = λ x e. absurd (false≢true e)
line-up bits known n Spent h = λ x e. absurd (false≢true e)
line-up bits known n End h = λ x e. absurd (false≢true e)

length-push : {T : Type 0} (xs : List T) (y : T) → length (xs ++ y ∷ []) ≡ length xs + 1
length-push [] y = omega arith
length-push (x ∷ xs) y = ap suc (length-push xs y) ∙ omega arith

added-length : (bits : List Lit) (known : List (List Lit)) (l : Line) → length known ≤ length (with_added known (added bits l))
added-length bits known l = by-option (added bits l)
  where
    by-option : (o : Option (List Lit)) → length known ≤ length (with_added known o)
    by-option None = omega arith
    by-option (Some c) = let h = length-push known c in omega (arith, h)

-- an unused id: no line uses it whose chains name smaller ids alone
unused : (l : Line) (ls : List Line) (x : ℕ) → stands (chain_of l) x ≡ false → used_by (l ∷ ls) x ≡ used_by ls x
unused l ls x e = ap (λ b. used_by ls x || (is_user l (used_by ls) && b)) e ∙ by-bools (used_by ls x) (is_user l (used_by ls))
  where
    by-bools : (a b : Bool) → (a || (b && false)) ≡ a
    by-bools true b = refl
    by-bools false true = refl
    by-bools false false = refl

not-stands : (n x : ℕ) (ids : List ℕ) → IdsUpTo n ids → n < x → stands ids x ≡ false
not-stands n x ids f h = elim (cases_Bool (stands ids x)) [ inl t ↦ absurd (omega (arith, h, f x t)) | inr e ↦ e ]

-- a line that is used and its chain
learnt-used : (bits : List Lit) (known : List (List Lit)) (n : ℕ) (ls : List Line) (i k : ℕ) (c : List Lit) (chain : List ℕ) (x : ℕ)
    → EachLine (LineHolds bits) bits known n ls
    → slice_get ls i ≡ Some (Learnt k c chain) → stands chain x ≡ true → used_by ls k ≡ true → (length known < k) × (used_by ls x ≡ true)
learnt-used bits known n [] i k c chain x e g s u = absurd (none-some (Learnt k c chain) g)
learnt-used bits known n (l ∷ ls) zero k c chain x e g s u =
    let same : l ≡ Learnt k c chain = same_Some l (Learnt k c chain) g in
    let h : LineHolds bits known n (Learnt k c chain) = subst (LineHolds bits known n) same e.0 in
    let above : length known < k = omega (arith, h.0) in
    let used : used_by ls k ≡ true = sym
    (unused (Learnt k c chain) ls k (not-stands (length known) k chain (derived-up known chain c h.2) above))
    ∙ subst (λ y. used_by (y ∷ ls) k ≡ true) same u in (
      above,
      subst (λ y. used_by (y ∷ ls) x ≡ true) (sym same)
          (or_right (used_by ls x) (used_by ls k && stands chain x) (and_from (used_by ls k) (stands chain x) used s)),
    )
learnt-used bits known n (l ∷ ls) (suc i) k c chain x e g s u =
    later (learnt-used bits (with_added known (added bits l)) (n + settles l) ls i k c chain x e.1 g s)
  where
    far : (f : used_by ls k ≡ true → (length (with_added known (added bits l)) < k) × (used_by ls x ≡ true)) → used_by ls k ≡ true
        → (length known < k) × (used_by (l ∷ ls) x ≡ true)
    far f v = let r = f v in (
      omega (arith, r.0, added-length bits known l),
      or_left (used_by ls x)
          (is_user l (used_by ls) && stands (chain_of l) x) r.1,
    )

    ahead : (bits : List Lit) (known : List (List Lit)) (n : ℕ) (ls : List Line) (i : ℕ) → EachLine (LineHolds bits) bits known n ls
        → slice_get ls i ≡ Some (Learnt k c chain) → length known < k
    ahead bits known n [] i e g = absurd (none-some (Learnt k c chain) g)
    ahead bits known n (l ∷ ls) zero e g = let h : LineHolds bits known n (Learnt k c chain) =
        subst (LineHolds bits known n) (same_Some l (Learnt k c chain) g) e.0 in omega (arith, h.0)
    ahead bits known n (l ∷ ls) (suc i) e g = let h = ahead bits (with_added known (added bits l)) (n + settles l) ls i e.1 g in
        omega (arith, h, added-length bits known l)

    later : (used_by ls k ≡ true → (length (with_added known (added bits l)) < k) × (used_by ls x ≡ true)) → (length known < k)
        × (used_by (l ∷ ls) x ≡ true)
    later f =
        let a = ahead bits (with_added known (added bits l)) (n + settles l) ls i e.1 g in
        far f (sym (unused l ls k (not-stands (length known) k (chain_of l) (line-up bits known n l e.0)
        (omega (arith, a, added-length bits known l)))) ∙ u)

-- the last line's chain
last-used : (ls : List Line) (chain : List ℕ) (x : ℕ) → LastIs (λ l. l ≡ Unsat chain) ls → stands chain x ≡ true → used_by ls x ≡ true
last-used [] chain x h s = absurd h
last-used (l ∷ []) chain x h s = subst (λ y. used_by (y ∷ []) x ≡ true) (sym h) s
last-used (l ∷ k ∷ ls) chain x h s =
    or_left (used_by (k ∷ ls) x) (is_user l (used_by (k ∷ ls)) && stands (chain_of l) x) (last-used (k ∷ ls) chain x h s)

head-apart : (vars n : ℕ) (m : ℕ) (k : ℕ) (c : List Lit) (chain : List ℕ) → Header vars n m ≡ Learnt k c chain → ⊥
head-apart vars n m k c chain q = cc

-- the first line is no refutation
pub head-unsat : (vars n m : ℕ) (chain : List ℕ) → Header vars n m ≡ Unsat chain → ⊥
head-unsat vars n m chain q = cc

or-off : (a b : Bool) → (a || (false && b)) ≡ a
or-off true b = refl
or-off false b = refl

-- what the refutation uses is found
pub uses-used : (vars : ℕ) (input : List (List Lit)) (bits : List Lit) (lines : List Line) → IsSound vars input bits lines → (n id : ℕ)
    → UsesIn lines n id → used_by lines id ≡ true
uses-used vars input bits lines s zero id u = last-used lines u.0 id u.1 u.2
uses-used vars input bits [] s (suc n) id u = absurd s
uses-used vars input bits (l ∷ ls) s (suc n) id u = at-place u.3.0 u.3.1 (uses-used vars input bits (l ∷ ls) s n u.0 u.5)
  where
    same : (x : ℕ) → used_by (l ∷ ls) x ≡ used_by ls x
    same x = subst (λ y. used_by (y ∷ ls) x ≡ used_by ls x) (sym s.0) (or-off (used_by ls x) (stands [] x))

    at-place : (i : ℕ) → slice_get (l ∷ ls) i ≡ Some (Learnt u.0 u.1 u.2) → used_by (l ∷ ls) u.0 ≡ true → used_by (l ∷ ls) id ≡ true
    at-place zero g h = absurd (head-apart vars (length input) (length bits) u.0 u.1 u.2 (sym s.0 ∙ same_Some l (Learnt u.0 u.1 u.2) g))
    at-place (suc i) g h = same id ∙ (learnt-used bits input 0 ls i u.0 u.1 u.2 id s.1 g u.4 (sym (same u.0) ∙ h)).1

-- what lines use the refutation uses
get-behind : (front : List Line) (l : Line) (ls : List Line) → slice_get (front ++ l ∷ ls) (length front) ≡ Some l
get-behind [] l ls = refl
get-behind (f ∷ front) l ls = get-behind front l ls

last-behind : (P : Line → Type 0) (front : List Line) (l : Line) → P l → LastIs P (front ++ l ∷ [])
last-behind P [] l h = h
last-behind P (f ∷ []) l h = h
last-behind P (f ∷ g ∷ front) l h = last-behind P (g ∷ front) l h

regroup : (front : List Line) (l : Line) (ls : List Line) → (front ++ l ∷ []) ++ ls ≡ front ++ l ∷ ls
regroup [] l ls = refl
regroup (f ∷ front) l ls = ap (λ xs. f ∷ xs) (regroup front l ls)

used-uses : (front ls : List Line) → EndsLast ls → (x : ℕ) → used_by ls x ≡ true → Uses (front ++ ls) x
used-uses front [] e x u = absurd (false≢true u)
used-uses front (l ∷ ls) e x u = elim (or_cases (used_by ls x) (is_user l (used_by ls) && stands (chain_of l) x) u) [
  | inl p ↦ subst (λ ys. Uses ys x) (regroup front l ls) (used-uses (front ++ l ∷ []) ls e.1 x p)
  | inr p ↦ let q = and_parts (is_user l (used_by ls)) (stands (chain_of l) x) p in
      by-line l refl q.0 q.1 (λ y v. subst (λ ys. Uses ys y) (regroup front l ls) (used-uses (front ++ l ∷ []) ls e.1 y v))
]
  where
    by-line : (k : Line) → l ≡ k → is_user k (used_by ls) ≡ true → stands (chain_of k) x ≡ true
        → ((y : ℕ) → used_by ls y ≡ true → Uses (front ++ l ∷ ls) y) → Uses (front ++ l ∷ ls) x
    by-line (Learnt id c chain) q v s ih = let r = ih id v in
        (suc r.0, (id, c, chain, (length front, get-behind front l ls ∙ ap Some q), s, r.1))
    by-line (Unsat chain) q v s ih = (
      zero,
      (
        chain,
        subst (λ ys. LastIs (λ k. k ≡ Unsat chain) (front ++ l ∷ ys)) (sym (e.0 (ap ends q)))
            (last-behind (λ k. k ≡ Unsat chain) front l q),
        s,
      ),
    )
    by-line (Header a b d) q v s ih = absurd (false≢true v)
    by-line (Zero id b) q v s ih = absurd (false≢true v)
    by-line (One id b chain) q v s ih = absurd (false≢true v)
    by-line Spent q v s ih = absurd (false≢true v)
    by-line End q v s ih = absurd (false≢true v)

begin-last : (vars : ℕ) (input : List (List Lit)) (bits : List Lit) (lines : List Line) → IsSound vars input bits lines → EndsLast lines
begin-last vars input bits [] s = absurd s
begin-last vars input bits (l ∷ ls) s = ((λ e. absurd (false≢true (sym (ap ends s.0) ∙ e))), s.2)

-- and nothing else
pub used-is : (vars : ℕ) (input : List (List Lit)) (bits : List Lit) (lines : List Line) → IsSound vars input bits lines → (x : ℕ)
    → (used_by lines x ≡ true) ↔ Uses lines x
used-is vars input bits lines s x =
    ((λ u. used-uses [] lines (begin-last vars input bits lines s) x u), (λ u. uses-used vars input bits lines s u.0 x u.1))
