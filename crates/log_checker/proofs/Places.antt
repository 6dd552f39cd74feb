-- Elements at places, and equal lists of literals.
use Prim.Native.Nat.{zero, suc}
use Rattle.std.proofs.Common.{◌≡◌, ◌≢◌, ℕ, ◌<◌, Bool, true, false, ◌&&◌, List, [], ◌∷◌, length, Some, refl, ap, arith, slice_set, slice_get}
use Rattle.std.specs.Prelude.{slice_index_or}
use Rattle.std.proofs.lemmas.Bool.{false≢true, and_parts, and_from}
use Rattle.clause_store.proofs.Sets.{same_lit, lit_eq-refl}
use Rattle.clause_store.specs.declared.Lit.{Lit}
use Rattle.clause_store.specs.Lits.{lit_eq}
use Rattle.log_checker.specs.Steps.{same_lits}

-- a list with another element at a place
pub get-set-same : {T : Type 0} (xs : List T) (k : ℕ) (y : T) → k < length xs → slice_get (slice_set xs k y) k ≡ Some y
get-set-same [] k y h = absurd (omega (arith, h))
get-set-same (x ∷ xs) zero y h = refl
get-set-same (x ∷ xs) (suc k) y h = get-set-same xs k y (omega (arith, h))

pub get-set-other : {T : Type 0} (xs : List T) (k j : ℕ) (y : T) → k ≢ j → slice_get (slice_set xs k y) j ≡ slice_get xs j
get-set-other [] k j y h = refl
get-set-other (x ∷ xs) zero zero y h = absurd (h refl)
get-set-other (x ∷ xs) zero (suc j) y h = refl
get-set-other (x ∷ xs) (suc k) zero y h = refl
get-set-other (x ∷ xs) (suc k) (suc j) y h = get-set-other xs k j y (λ e. h (ap suc e))

pub get-index : {T : Type 0} (xs : List T) (k : ℕ) (d : T) → k < length xs → slice_get xs k ≡ Some (slice_index_or xs k d)
get-index [] k d h = absurd (omega (arith, h))
get-index (x ∷ xs) zero d h = refl
get-index (x ∷ xs) (suc k) d h = get-index xs k d (omega (arith, h))

-- equal lists of literals
pub lengths-differ : (c d : List Lit) → length c ≢ length d → same_lits c d ≡ false
lengths-differ [] [] h = absurd (h refl)
lengths-differ [] (m ∷ d) h = refl
lengths-differ (l ∷ c) [] h = refl
lengths-differ (l ∷ c) (m ∷ d) h = by (lit_eq l m) (lengths-differ c d (λ e. h (ap suc e)))
  where
    by : (b : Bool) → same_lits c d ≡ false → (b && same_lits c d) ≡ false
    by true e = e
    by false e = refl

pub same_lits-is : (c d : List Lit) → same_lits c d ≡ true → c ≡ d
same_lits-is [] [] e = refl
same_lits-is [] (m ∷ d) e = absurd (false≢true e)
same_lits-is (l ∷ c) [] e = absurd (false≢true e)
same_lits-is (l ∷ c) (m ∷ d) e = let p = and_parts (lit_eq l m) (same_lits c d) e in rw (same_lit l m p.0, same_lits-is c d p.1) refl

pub same_lits-refl : (c : List Lit) → same_lits c c ≡ true
same_lits-refl [] = refl
same_lits-refl (l ∷ c) = and_from (lit_eq l l) (same_lits c c) (lit_eq-refl l) (same_lits-refl c)
