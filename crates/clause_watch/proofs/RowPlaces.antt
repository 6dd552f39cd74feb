-- Places of lists: fronts, backs, and what was set or taken.
use Rattle.std.proofs.Common.{◌≡◌, ◌≢◌, ℕ, zero, suc, ◌+◌, ◌<◌, not, List, [], ◌∷◌, ◌++◌, length, get_or, take, set, Some, ◌⊎◌, inl, inr, refl, ap, arith}
use Rattle.std.specs.Prelude.{slice_get}
use Rattle.std.proofs.lemmas.Option.{none-some, same_Some}

-- places of lists
pub at-within : {A : Type 0} (xs : List A) (k : ℕ) (x : A) → slice_get xs k ≡ Some x → k < length xs
at-within [] k x e = absurd (none-some x e)
at-within (y ∷ xs) zero x e = omega arith
at-within (y ∷ xs) (suc k) x e = let h = at-within xs k x e in omega (arith, h)

-- the elements of a front
pub at-front : {A : Type 0} (xs ys : List A) (k : ℕ) (x : A) → slice_get xs k ≡ Some x → slice_get (xs ++ ys) k ≡ Some x
at-front [] ys k x e = absurd (none-some x e)
at-front (y ∷ xs) ys zero x e = e
at-front (y ∷ xs) ys (suc k) x e = at-front xs ys k x e

-- an element within the front is of the front
pub at-back : {A : Type 0} (xs ys : List A) (k : ℕ) (x : A) → k < length xs → slice_get (xs ++ ys) k ≡ Some x → slice_get xs k ≡ Some x
at-back [] ys k x h e = absurd (omega arith)
at-back (y ∷ xs) ys zero x h e = e
at-back (y ∷ xs) ys (suc k) x h e = at-back xs ys k x (omega arith) e

-- the element that was pushed
pub at-last : {A : Type 0} (xs : List A) (x : A) → slice_get (xs ++ x ∷ []) (length xs) ≡ Some x
at-last [] x = refl
at-last (y ∷ xs) x = at-last xs x

-- the last one, or one of those before
pub at-parts : {A : Type 0} (xs : List A) (y : A) (k : ℕ) (x : A) → slice_get (xs ++ y ∷ []) k ≡ Some x
    → (slice_get xs k ≡ Some x) ⊎ ((k ≡ length xs) × (y ≡ x))
at-parts [] y zero x e = inr (refl, same_Some y x e)
at-parts [] y (suc k) x e = absurd (none-some x e)
at-parts (z ∷ xs) y zero x e = inl e
at-parts (z ∷ xs) y (suc k) x e = elim (at-parts xs y k x e) [ inl old ↦ inl old | inr p ↦ inr (omega (arith, p.0), p.1) ]

-- the element that was set
pub at-set_same : {A : Type 0} (xs : List A) (k : ℕ) (x : A) → k < length xs → slice_get (set xs k x) k ≡ Some x
at-set_same [] k x h = absurd (omega arith)
at-set_same (y ∷ xs) zero x h = refl
at-set_same (y ∷ xs) (suc k) x h = at-set_same xs k x (omega arith)

-- the elements that were not
pub at-set_other : {A : Type 0} (xs : List A) (k j : ℕ) (x : A) → j ≢ k → slice_get (set xs k x) j ≡ slice_get xs j
at-set_other [] k j x ne = refl
at-set_other (y ∷ xs) zero zero x ne = absurd (ne refl)
at-set_other (y ∷ xs) zero (suc j) x ne = refl
at-set_other (y ∷ xs) (suc k) zero x ne = refl
at-set_other (y ∷ xs) (suc k) (suc j) x ne = at-set_other xs k j x (λ e. ne (ap suc e))

-- what is read within the length
pub at-get_or : {A : Type 0} (xs : List A) (k : ℕ) (d : A) → k < length xs → slice_get xs k ≡ Some (get_or xs k d)
at-get_or [] k d h = absurd (omega arith)
at-get_or (y ∷ xs) zero d h = refl
at-get_or (y ∷ xs) (suc k) d h = at-get_or xs k d (omega arith)

-- something stands at each place within the length
pub at-there : {A : Type 0} (xs : List A) (k : ℕ) → k < length xs → (x : A) × (slice_get xs k ≡ Some x)
at-there [] k h = absurd (omega arith)
at-there (y ∷ xs) zero h = (y, refl)
at-there (y ∷ xs) (suc k) h = at-there xs k (omega arith)

pub at-take : {A : Type 0} (n : ℕ) (xs : List A) (k : ℕ) (x : A) → slice_get (take n xs) k ≡ Some x → slice_get xs k ≡ Some x
at-take zero xs k x e = absurd (none-some x e)
at-take (suc n) [] k x e = absurd (none-some x e)
at-take (suc n) (y ∷ xs) zero x e = e
at-take (suc n) (y ∷ xs) (suc k) x e = at-take n xs k x e

pub take-at : {A : Type 0} (n : ℕ) (xs : List A) (k : ℕ) (x : A) → k < n → slice_get xs k ≡ Some x → slice_get (take n xs) k ≡ Some x
take-at zero xs k x h e = absurd (omega arith)
take-at (suc n) [] k x h e = absurd (none-some x e)
take-at (suc n) (y ∷ xs) zero x h e = e
take-at (suc n) (y ∷ xs) (suc k) x h e = take-at n xs k x (omega arith) e
