-- The lines that stay keep their facts: each is derived from clauses that stay, under their new ids.
use Prim.Native.Nat.{zero, suc}
use Rattle.std.proofs.Common.{◌≡◌, ℕ, ◌+◌, Bool, true, false, ◌&&◌, List, [], ◌∷◌, ◌++◌, Option, Some, None, length, map, refl, sym, ◌∙◌, subst, ap, arith, eqb, inl, inr}
use Rattle.std.specs.Prelude.{slice_get, if◌then◌else◌}
use Rattle.std.specs.Option.{option_map}
use Rattle.std.proofs.lemmas.Bool.{false≢true, or_left, or_right, and_from}
use Rattle.std.proofs.lemmas.Bool.Decides.{eqb_tells}
use Rattle.std.proofs.lemmas.Option.{none-some}
use Rattle.std.proofs.lemmas.List.{length-append}
use Rattle.clause_store.specs.declared.Lit.{Lit}
use Rattle.clause_store.specs.Lits.{negation}
use Rattle.clause_store.specs.Clauses.{at_id}
use Rattle.proof_log.specs.declared.line.Line.{Line}
use Rattle.proof_log.specs.declared.line.Line.TheVariants.{Header, Learnt, Zero, One, Unsat, Spent, End}
use Rattle.proof_log.specs.Derivations.{DerivesFrom, IsDerived}
use Rattle.proof_log.specs.Lines.{with_added, EachLine}
use Rattle.proof_log.specs.Logs.{LineHolds}
use Rattle.proof_log.proofs.Ids.{at_id-append}
use Rattle.log_trim.specs.Trimmed.{stands, chain_of, stays, used_by, staying, with_name, anew}

stands-first : (id : ℕ) (ids : List ℕ) → stands (id ∷ ids) id ≡ true
stands-first id ids = or_left (eqb id id) (stands ids id) (elim (eqb_tells id id) [ inl q ↦ q.0 | inr q ↦ absurd (q.1 refl) ])

-- each of these ids has its clause under its new name
abbrev pub Names : List (List Lit) → List (List Lit) → (ℕ → ℕ) → (ℕ → Bool) → Type 0
Names known new names used = (x : ℕ) (c : List Lit) → used x ≡ true → at_id known x ≡ Some c → at_id new (names x) ≡ Some c

from-anew : (known new : List (List Lit)) (names : ℕ → ℕ) (a : List Lit) (ids : List ℕ) (stated : List Lit)
    → Names known new names (stands ids)
    → DerivesFrom known a ids stated → DerivesFrom new a (map names ids) stated
from-anew known new names a [] stated n d = d
from-anew known new names a (id ∷ ids) stated n d = (
  d.0,
  d.1,
  d.2,
  n id d.0 (stands-first id ids) d.3,
  d.4,
  from-anew known new names d.1 ids stated
      (λ x c s e. n x c (or_right (eqb id x) (stands ids x) s) e) d.5,
)

-- a chain leads to the same clause under new names
derived-anew : (known new : List (List Lit)) (names : ℕ → ℕ) (ids : List ℕ) (stated : List Lit) → Names known new names (stands ids)
    → IsDerived known ids stated → IsDerived new (map names ids) stated
derived-anew known new names [] stated n d = d
derived-anew known new names (id ∷ ids) stated n d = (
  d.0,
  n id d.0 (stands-first id ids) d.1,
  from-anew known new names d.0 ids stated (λ x c s e. n x c (or_right (eqb id x) (stands ids x) s) e) d.2,
)

-- what is used by the lines behind one, and by one that stays
behind : (known new : List (List Lit)) (names : ℕ → ℕ) (l : Line) (ls : List Line) → Names known new names (used_by (l ∷ ls))
    → Names known new names (used_by ls)
behind known new names l ls n x c u e = n x c (or_left (used_by ls x) (stays (used_by ls) l && stands (chain_of l) x) u) e

at-line : (known new : List (List Lit)) (names : ℕ → ℕ) (l : Line) (ls : List Line) → Names known new names (used_by (l ∷ ls))
    → stays (used_by ls) l ≡ true → Names known new names (stands (chain_of l))
at-line known new names l ls n s x c u e =
    n x c (or_right (used_by ls x) (stays (used_by ls) l && stands (chain_of l) x)
    (and_from (stays (used_by ls) l) (stands (chain_of l) x) s u)) e

-- the last of the known clauses, and those before it
get-last : (known : List (List Lit)) (c : List Lit) → slice_get (known ++ c ∷ []) (length known) ≡ Some c
get-last [] c = refl
get-last (d ∷ known) c = get-last known c

at-last : (known : List (List Lit)) (c : List Lit) (id : ℕ) → id ≡ length known + 1 → at_id (known ++ c ∷ []) id ≡ Some c
at-last known c zero e = absurd (omega (arith, e))
at-last known c (suc k) e =
    let q : k ≡ length known = omega (arith, e) in ap (slice_get (known ++ c ∷ [])) q ∙ get-last known c

get-before : (known : List (List Lit)) (c d : List Lit) (k : ℕ) → (k ≡ length known → ⊥) → slice_get (known ++ c ∷ []) k ≡ Some d
    → slice_get known k ≡ Some d
get-before [] c d zero h e = absurd (h refl)
get-before [] c d (suc k) h e = absurd (none-some d e)
get-before (b ∷ known) c d zero h e = e
get-before (b ∷ known) c d (suc k) h e = get-before known c d k (λ q. h (ap (λ n. suc n) q)) e

at-before : (known : List (List Lit)) (c d : List Lit) (id : ℕ) → (id ≡ length known + 1 → ⊥) → at_id (known ++ c ∷ []) id ≡ Some d
    → at_id known id ≡ Some d
at-before known c d zero h e = absurd (none-some d e)
at-before known c d (suc k) h e = get-before known c d k (λ q. h (omega (arith, q))) e

-- one more clause stays
names-next : (known new : List (List Lit)) (names : ℕ → ℕ) (used : ℕ → Bool) (c : List Lit) (id n : ℕ) → Names known new names used
    → id ≡ length known + 1 → length new ≡ n → Names (known ++ c ∷ []) (new ++ c ∷ []) (with_name names (Some id) (n + 1)) used
names-next known new names used c id n m e l x d u a = elim (eqb_tells id x) [
  | inl q ↦ ap (λ b. at_id (new ++ c ∷ []) (if b then n + 1 else names x)) q.0
      ∙ at-last new c (n + 1) (omega (arith, l))
      ∙ sym (at-last known c x (sym q.1 ∙ e)) ∙ a
  | inr q ↦ ap (λ b. at_id (new ++ c ∷ []) (if b then n + 1 else names x)) q.0
      ∙ at_id-append new (c ∷ []) (names x) d (m x d u (at-before known c d x (λ r. q.1 (e ∙ sym r)) a))
]

-- one more clause that is not used is left out
names-skip : (known new : List (List Lit)) (names : ℕ → ℕ) (used : ℕ → Bool) (c : List Lit) (id : ℕ) → Names known new names used
    → id ≡ length known + 1 → used id ≡ false → Names (known ++ c ∷ []) new names used
names-skip known new names used c id m e f x d u a = elim (eqb_tells id x) [
  | inl q ↦ absurd (false≢true (sym f ∙ subst (λ y. used y ≡ true) (sym q.1) u))
  | inr q ↦ m x d u (at-before known c d x (λ r. q.1 (e ∙ sym r)) a)
]

longer : (new : List (List Lit)) (c : List Lit) (n : ℕ) → length new ≡ n → length (new ++ c ∷ []) ≡ n + 1
longer new c n e = length-append new (c ∷ []) ∙ omega (arith, e)

-- what is asked of the lines behind one
abbrev pub Rest : List Lit → List Line → Type 0
Rest bits ls = (known new : List (List Lit)) (names : ℕ → ℕ) (n k : ℕ) → EachLine (LineHolds bits) bits known k ls
    → Names known new names (used_by ls) → length new ≡ n → EachLine (LineHolds bits) bits new k (anew names n ls (staying ls))

-- a settled bit makes a clause known
settled : (bits : List Lit) (ls : List Line) (f : Lit → List Lit) (known new : List (List Lit)) (names : ℕ → ℕ) (id n k : ℕ)
    (o : Option Lit) (l : Lit) → Rest bits ls → o ≡ Some l → id ≡ length known + 1 → length new ≡ n → Names known new names (used_by ls)
    → EachLine (LineHolds bits) bits (with_added known (option_map f o)) k ls
    → EachLine (LineHolds bits) bits (with_added new (option_map f o)) k (anew (with_name names (Some id) (n + 1)) (n + 1) ls (staying ls))
settled bits ls f known new names id n k None l r q e s m h = absurd (none-some l q)
settled bits ls f known new names id n k (Some j) l r q e s m h =
    r (known ++ f j ∷ []) (new ++ f j ∷ []) (with_name names (Some id) (n + 1)) (n + 1) k h
    (names-next known new names (used_by ls) (f j) id n m e s) (longer new (f j) n s)

-- a learnt clause stays, or is left out
learnt : (bits : List Lit) (ls : List Line) (known new : List (List Lit)) (names : ℕ → ℕ) (id n k : ℕ) (c : List Lit) (chain : List ℕ)
    → Rest bits ls → EachLine (LineHolds bits) bits known k (Learnt id c chain ∷ ls)
    → Names known new names (used_by (Learnt id c chain ∷ ls))
    → length new ≡ n → EachLine (LineHolds bits) bits new k (anew names n (Learnt id c chain ∷ ls) (staying (Learnt id c chain ∷ ls)))
learnt bits ls known new names id n k c chain r h m s = by (used_by ls id) refl
  where
    rest : Names known new names (used_by ls)
    rest = behind known new names (Learnt id c chain) ls m

    by : (b : Bool) → used_by ls id ≡ b → EachLine (LineHolds bits) bits new k
        (if b then Learnt (n + 1) c (map names chain) ∷ anew (with_name names (Some id) (n + 1)) (n + 1) ls (staying ls)
        else anew names n ls (staying ls))
    by true q = (
      (omega (arith, s), h.0.1, derived-anew known new names chain c (at-line known new names (Learnt id c chain) ls m q) h.0.2),
      r (known ++ c ∷ []) (new ++ c ∷ [])
          (with_name names (Some id) (n + 1)) (n + 1) (k + 0) h.1 (names-next known new names (used_by ls) c id n rest h.0.0 s)
          (longer new c n s),
    )
    by false q =
        let z : k + 0 ≡ k = omega arith in
        subst (λ j. EachLine (LineHolds bits) bits new j (anew names n ls (staying ls))) z
        (r (known ++ c ∷ []) new names n (k + 0) h.1 (names-skip known new names (used_by ls) c id rest h.0.0 q) s)

-- each line that stays holds
pub holds : (bits : List Lit) (ls : List Line) → Rest bits ls
holds bits [] known new names n k h m s = tt
holds bits (Header vars clauses b ∷ ls) known new names n k h m s = absurd h.0
holds bits (Learnt id c chain ∷ ls) known new names n k h m s = learnt bits ls known new names id n k c chain (holds bits ls) h m s
holds bits (Zero id b ∷ ls) known new names n k h m s = (
  (omega (arith, s), h.0.1, h.0.2, h.0.3),
  settled bits ls (λ l. negation l ∷ []) known new names id n (k + 1) (slice_get bits b) h.0.2 (holds bits ls)
      (ap (slice_get bits) h.0.1 ∙ h.0.3) h.0.0 s (behind known new names (Zero id b) ls m) h.1,
)
holds bits (One id b chain ∷ ls) known new names n k h m s = (
  (
    omega (arith, s),
    h.0.1,
    h.0.2,
    h.0.3,
    derived-anew known new names chain (h.0.2 ∷ []) (at-line known new names (One id b chain) ls m refl) h.0.4,
  ),
  settled bits ls (λ l. l ∷ []) known new names id n (k + 1) (slice_get bits b) h.0.2 (holds bits ls)
      (ap (slice_get bits) h.0.1 ∙ h.0.3) h.0.0 s (behind known new names (One id b chain) ls m) h.1,
)
holds bits (Unsat chain ∷ ls) known new names n k h m s = (
  derived-anew known new names chain [] (at-line known new names (Unsat chain) ls m refl) h.0,
  holds bits ls known new (with_name names None (n + 1)) n (k + 0) h.1 (behind known new names (Unsat chain) ls m) s,
)
holds bits (Spent ∷ ls) known new names n k h m s =
    (tt, holds bits ls known new (with_name names None (n + 1)) n (k + 0) h.1 (behind known new names Spent ls m) s)
holds bits (End ∷ ls) known new names n k h m s =
    (h.0, holds bits ls known new (with_name names None (n + 1)) n (k + 0) h.1 (behind known new names End ls m) s)
