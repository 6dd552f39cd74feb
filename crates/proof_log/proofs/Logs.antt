-- Facts of lines, and a log that grows by one line.
use Rattle.std.proofs.Common.{◌≡◌, ℕ, ◌+◌, ◌≤◌, Bool, true, false, List, [], ◌∷◌, ◌++◌, length, Option, Some, None, refl, sym, subst, arith}
use Rattle.clause_store.specs.declared.Lit.{Lit}
use Rattle.proof_log.specs.declared.line.Line.{Line}
use Rattle.proof_log.specs.declared.line.Line.TheVariants.{Header, Learnt, Zero, One, Unsat, Spent, End}
use Rattle.proof_log.specs.Known.{EachClause}
use Rattle.proof_log.specs.Lines.{added, with_added, settles, ends, known_after, settled_after, learnt_in, learnt_count, AllLearnt, AllLines, LastIs, OfLearnt, EachLine, EndsLast, IsOpen}
use Rattle.proof_log.specs.Logs.{IsSound, LineHolds}

-- one more line has its fact at the clauses before it
pub EachLine-push : (P : List (List Lit) → ℕ → Line → Type 0) (bits : List Lit) (known : List (List Lit)) (n : ℕ)
    (ls : List Line) (l : Line) →
    EachLine P bits known n ls → P (known_after bits known ls) (settled_after n ls) l → EachLine P bits known n (ls ++ l ∷ [])
EachLine-push P bits known n [] l a h = (h, tt)
EachLine-push P bits known n (k ∷ ls) l a h = (a.0, EachLine-push P bits (with_added known (added bits k)) (n + settles k) ls l a.1 h)

-- the clauses that are known after one more line
pub known_after-push : (bits : List Lit) (known : List (List Lit)) (ls : List Line) (l : Line)
    → known_after bits known (ls ++ l ∷ []) ≡ with_added (known_after bits known ls) (added bits l)
known_after-push bits known [] l = refl
known_after-push bits known (k ∷ ls) l = known_after-push bits (with_added known (added bits k)) ls l

-- the bits that are settled after one more line
pub settled_after-push : (n : ℕ) (ls : List Line) (l : Line) → settled_after n (ls ++ l ∷ []) ≡ settled_after n ls + settles l
settled_after-push n [] l = refl
settled_after-push n (k ∷ ls) l = settled_after-push (n + settles k) ls l

-- the learnt clauses with one more line
pub learnt_in-push : (ls : List Line) (l : Line) → learnt_in (ls ++ l ∷ []) ≡ learnt_in ls + learnt_count l
learnt_in-push [] l = omega arith
learnt_in-push (k ∷ ls) l = let h = learnt_in-push ls l in omega (arith, h)

-- there are no more learnt clauses than lines
pub learnt_in-le : (ls : List Line) → learnt_in ls ≤ length ls
learnt_in-le [] = omega arith
learnt_in-le (l ∷ ls) = let h = learnt_in-le ls in omega (arith, h, by-line l)
  where
    by-line : (l : Line) → learnt_count l ≤ 1
    by-line (Learnt id c chain) = omega arith
    by-line (Header vars clauses m) = omega arith
    by-line (Zero id b) = omega arith
    by-line (One id b chain) = omega arith
    by-line (Unsat chain) = omega arith
    by-line Spent = omega arith
    by-line End = omega arith

pub AllLines-append : (P : Line → Type 0) (xs ys : List Line) → AllLines P xs → AllLines P ys → AllLines P (xs ++ ys)
AllLines-append P [] ys a b = b
AllLines-append P (x ∷ xs) ys a b = (a.0, AllLines-append P xs ys a.1 b)

pub LastIs-push : (P : Line → Type 0) (ls : List Line) (l : Line) → P l → LastIs P (ls ++ l ∷ [])
LastIs-push P [] l h = h
LastIs-push P (k ∷ []) l h = h
LastIs-push P (k ∷ j ∷ ls) l h = LastIs-push P (j ∷ ls) l h

-- a fact of learnt lines, of the lines before them and of the last one is one of all
learnt-all : (P : Line → Type 0) → ((id : ℕ) (c : _) (chain : _) → P (Learnt id c chain)) → (ls : List Line) → AllLearnt ls → AllLines P ls
learnt-all P f [] a = tt
learnt-all P f (l ∷ ls) a = (by-line l a.0, learnt-all P f ls a.1)
  where
    by-line : (l : Line) → learnt_count l ≡ 1 → P l
    by-line (Learnt id c chain) e = f id c chain
    by-line (Header x y z) e = cc
    by-line (Zero id b) e = cc
    by-line (One id b chain) e = cc
    by-line (Unsat chain) e = cc
    by-line Spent e = cc
    by-line End e = cc

-- a fact of learnt lines and of the last one is one of all
pub all-added : (P : Line → Type 0) → ((id : ℕ) (c : _) (chain : _) → P (Learnt id c chain)) → (lines old more : List Line) (l : Line) →
    lines ≡ (old ++ more) ++ l ∷ [] → AllLearnt more → AllLines P old → P l → AllLines P lines
all-added P f lines old more l e a h p = subst (AllLines P) (sym e)
    (AllLines-append P (old ++ more) (l ∷ []) (AllLines-append P old more h (learnt-all P f more a)) (p, tt))

-- a fact of learnt lines is one of all
pub all-learnt : (P : Line → Type 0) → ((id : ℕ) (c : _) (chain : _) → P (Learnt id c chain)) → (old more : List Line) → AllLearnt more
    → AllLines P old → AllLines P (old ++ more)
all-learnt P f old more a h = AllLines-append P old more h (learnt-all P f more a)

pub IsOpen-push : (ls : List Line) (l : Line) → IsOpen ls → ends l ≡ false → IsOpen (ls ++ l ∷ [])
IsOpen-push ls l a h = AllLines-append (λ k. ends k ≡ false) ls (l ∷ []) a (h, tt)

EndsLast-push : (ls : List Line) (l : Line) → IsOpen ls → EndsLast ls → EndsLast (ls ++ l ∷ [])
EndsLast-push [] l a h = ((λ e. refl), tt)
EndsLast-push (k ∷ ls) l a h = ((λ e. absurd (clash (ends k) a.0 e)), EndsLast-push ls l a.1 h.1)
  where
    clash : (b : Bool) → b ≡ false → b ≡ true → ⊥
    clash true p q = cc
    clash false p q = cc

-- one more line that holds keeps an open log sound
pub IsSound-push : (vars : ℕ) (input : List (List Lit)) (bits : List Lit) (ls : List Line) (l : Line) →
    IsSound vars input bits ls → IsOpen ls → LineHolds bits (known_after bits input ls) (settled_after 0 ls) l
    → IsSound vars input bits (ls ++ l ∷ [])
IsSound-push vars input bits [] l s o h = absurd s
IsSound-push vars input bits (k ∷ ls) l s o h = by-line k s.0 o h
  where
    by-line : (k : Line) → k ≡ Header vars (length input) (length bits) → IsOpen (k ∷ ls)
        → LineHolds bits (known_after bits input (k ∷ ls)) (settled_after 0 (k ∷ ls)) l → IsSound vars input bits (k ∷ (ls ++ l ∷ []))
    by-line (Header v c b) e o h = (e, EachLine-push (LineHolds bits) bits input 0 ls l s.1 h, EndsLast-push ls l o.1 s.2)
    by-line (Learnt id c chain) e o h = cc
    by-line (Zero id b) e o h = cc
    by-line (One id b chain) e o h = cc
    by-line (Unsat chain) e o h = cc
    by-line Spent e o h = cc
    by-line End e o h = cc

-- a fact of each line that follows from another
pub EachLine-map : (P Q : List (List Lit) → ℕ → Line → Type 0) (bits : List Lit)
    → ((known : List (List Lit)) (n : ℕ) (l : Line) → P known n l → Q known n l) → (known : List (List Lit)) (n : ℕ) (ls : List Line)
    → EachLine P bits known n ls → EachLine Q bits known n ls
EachLine-map P Q bits f known n [] a = tt
EachLine-map P Q bits f known n (l ∷ ls) a =
    (f known n l a.0, EachLine-map P Q bits f (with_added known (added bits l)) (n + settles l) ls a.1)

-- a fact of all that is known in the end is one of what was known at first, and of what each line adds
abbrev pub IfAdded : (List Lit → Type 0) → Option (List Lit) → Type 0
IfAdded P None = Unit {0}
IfAdded P (Some c) = P c

module _ (P : List Lit → Type 0) where
  EachClause-front : (cs : List (List Lit)) (c : List Lit) → EachClause P (cs ++ c ∷ []) → EachClause P cs × P c
  EachClause-front [] c a = (tt, a.0)
  EachClause-front (d ∷ cs) c a = let r = EachClause-front cs c a.1 in ((a.0, r.0), r.1)

  -- a fact of each known clause is one of each added clause
  pub known-each : (bits : List Lit) (known : List (List Lit)) (n : ℕ) (ls : List Line) → EachClause P (known_after bits known ls)
      → EachClause P known × EachLine (λ k m l. IfAdded P (added bits l)) bits known n ls
  known-each bits known n [] a = (a, tt)
  known-each bits known n (l ∷ ls) a = by-option (added bits l) refl
      (known-each bits (with_added known (added bits l)) (n + settles l) ls a)
    where
      by-option : (o : Option (List Lit)) → added bits l ≡ o → EachClause P (with_added known (added bits l))
          × EachLine (λ k m x. IfAdded P (added bits x)) bits (with_added known (added bits l)) (n + settles l) ls → EachClause P known
          × EachLine (λ k m x. IfAdded P (added bits x)) bits known n (l ∷ ls)
      by-option None e h = (subst (λ x. EachClause P (with_added known x)) e h.0, (subst (IfAdded P) (sym e) tt, h.1))
      by-option (Some c) e h = let f = EachClause-front known c (subst (λ x. EachClause P (with_added known x)) e h.0) in
          (f.0, (subst (IfAdded P) (sym e) f.1, h.1))

  -- so it is one of each learnt clause
  pub learnt-each : (bits : List Lit) (known : List (List Lit)) (ls : List Line) → EachClause P (known_after bits known ls)
      → AllLines (OfLearnt P) ls
  learnt-each bits known ls a = along known 0 ls (known-each bits known 0 ls a).1
    where
      by-line : (l : Line) → IfAdded P (added bits l) → OfLearnt P l
      by-line (Learnt id c chain) h = h
      by-line (Header vars clauses b) h = tt
      by-line (Zero id b) h = tt
      by-line (One id b chain) h = tt
      by-line (Unsat chain) h = tt
      by-line Spent h = tt
      by-line End h = tt

      along : (known : List (List Lit)) (n : ℕ) (ls : List Line) → EachLine (λ k m l. IfAdded P (added bits l)) bits known n ls
          → AllLines (OfLearnt P) ls
      along known n [] a = tt
      along known n (l ∷ ls) a = (by-line l a.0, along (with_added known (added bits l)) (n + settles l) ls a.1)
