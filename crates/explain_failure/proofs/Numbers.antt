-- Numbers in rising order.
use Prim.Native.Nat.{suc}
use Rattle.std.proofs.Common.{◌≡◌, ◌⊎◌, ℕ, ◌<◌, ◌≤◌, Bool, true, false, ◌||◌, List, [], ◌∷◌, Some, inl, inr, length, refl, sym, ◌∙◌, ap, arith, ltb, eqb, slice_get, insert}
use Rattle.std.specs.Prelude.{if◌then◌else◌}
use Rattle.std.proofs.lemmas.Bool.{false≢true, cases_Bool, ltb-true, lt-ltb, eqb-true, eq-eqb, ne_eqb}
use Rattle.std.proofs.lemmas.Bool.Decides.{eqb_tells}
use Rattle.std.proofs.lemmas.Option.{same_Some, none-some}
use Rattle.explain_failure.specs.Uses.{stands, AllNumbersAbove, IsRising}
use Rattle.explain_failure.specs.Rising.{place_of, with_number}

not-below : (a b : ℕ) → ltb a b ≡ false → b ≤ a
not-below a b e = by-cases (cases_Bool (ltb a b)) (λ h. absurd (false≢true (sym e ∙ lt-ltb a b h)))
  where
    by-cases : (ltb a b ≡ true) ⊎ (ltb a b ≡ false) → (a < b → ⊥) → b ≤ a
    by-cases c f = omega (arith, f)

-- the number stands at its place
pub number-there : (xs : List ℕ) (n : ℕ) → slice_get xs (place_of xs n) ≡ Some n → xs ≡ with_number xs n
number-there [] n e = absurd (none-some n e)
number-there (x ∷ xs) n e = by-bool (ltb x n) refl (number-there xs n) e
  where
    by-bool : (b : Bool) → ltb x n ≡ b → (slice_get xs (place_of xs n) ≡ Some n → xs ≡ with_number xs n)
        → slice_get (x ∷ xs) (if b then suc (place_of xs n) else 0) ≡ Some n
        → x ∷ xs ≡ (if b then x ∷ with_number xs n else (if eqb x n then x ∷ xs else n ∷ x ∷ xs))
    by-bool true q ih f = ap (λ ys. x ∷ ys) (ih f)
    by-bool false q ih f = sym (ap (λ b. if b then x ∷ xs else n ∷ x ∷ xs) (eq-eqb x n (same_Some x n f)))

-- or it is put there
pub number-put : (xs : List ℕ) (n : ℕ) → (slice_get xs (place_of xs n) ≡ Some n → ⊥) → insert xs (place_of xs n) n ≡ with_number xs n
number-put [] n h = refl
number-put (x ∷ xs) n h = by-bool (ltb x n) refl (number-put xs n) h
  where
    by-bool : (b : Bool) → ltb x n ≡ b → ((slice_get xs (place_of xs n) ≡ Some n → ⊥) → insert xs (place_of xs n) n ≡ with_number xs n)
        → (slice_get (x ∷ xs) (if b then suc (place_of xs n) else 0) ≡ Some n → ⊥)
        → insert (x ∷ xs) (if b then suc (place_of xs n) else 0) n ≡
        (if b then x ∷ with_number xs n else (if eqb x n then x ∷ xs else n ∷ x ∷ xs))
    by-bool true q ih f = ap (λ ys. x ∷ ys) (ih f)
    by-bool false q ih f = sym (ap (λ b. if b then x ∷ xs else n ∷ x ∷ xs) (ne_eqb x n (λ e. f (ap Some e))))

pub place-le : (xs : List ℕ) (n : ℕ) → place_of xs n ≤ length xs
place-le [] n = omega arith
place-le (x ∷ xs) n = by-bool (ltb x n) (place-le xs n)
  where
    by-bool : (b : Bool) → place_of xs n ≤ length xs → (if b then suc (place_of xs n) else 0) ≤ length (x ∷ xs)
    by-bool true h = omega (arith, h)
    by-bool false h = omega arith

-- which numbers stand there then
pub stands-with : (xs : List ℕ) (n d : ℕ) → stands (with_number xs n) d ≡ (eqb n d || stands xs d)
stands-with [] n d = refl
stands-with (x ∷ xs) n d = by-bool (ltb x n) (stands-with xs n d)
  where
    swap : (a b c : Bool) → (a || (b || c)) ≡ (b || (a || c))
    swap true true c = refl
    swap true false c = refl
    swap false b c = refl

    twice : (a c : Bool) → (a || c) ≡ (a || (a || c))
    twice true c = refl
    twice false c = refl

    other : (b : Bool) → eqb x n ≡ b → stands (if b then x ∷ xs else n ∷ x ∷ xs) d ≡ (eqb n d || (eqb x d || stands xs d))
    other true q = twice (eqb x d) (stands xs d) ∙ ap (λ z. eqb z d || (eqb x d || stands xs d)) (eqb-true x n q)
    other false q = refl

    by-bool : (b : Bool) → stands (with_number xs n) d ≡ (eqb n d || stands xs d)
        → stands (if b then x ∷ with_number xs n else (if eqb x n then x ∷ xs else n ∷ x ∷ xs)) d ≡ (eqb n d || (eqb x d || stands xs d))
    by-bool true ih = ap (λ b. eqb x d || b) ih ∙ swap (eqb x d) (eqb n d) (stands xs d)
    by-bool false ih = other (eqb x n) refl

above-with : (m n : ℕ) (xs : List ℕ) → m < n → AllNumbersAbove m xs → AllNumbersAbove m (with_number xs n)
above-with m n [] h a = (h, tt)
above-with m n (x ∷ xs) h a = by-bools (ltb x n) (eqb x n) (above-with m n xs h a.1)
  where
    by-bools : (b c : Bool) → AllNumbersAbove m (with_number xs n)
        → AllNumbersAbove m (if b then x ∷ with_number xs n else (if c then x ∷ xs else n ∷ x ∷ xs))
    by-bools true c ih = (a.0, ih)
    by-bools false true ih = a
    by-bools false false ih = (h, a)

above-le : (m n : ℕ) (xs : List ℕ) → m ≤ n → AllNumbersAbove n xs → AllNumbersAbove m xs
above-le m n [] h a = tt
above-le m n (x ∷ xs) h a = (omega (arith, h, a.0), above-le m n xs h a.1)

-- a rising list with one more number rises
pub rising-with : (xs : List ℕ) (n : ℕ) → IsRising xs → IsRising (with_number xs n)
rising-with [] n r = (tt, tt)
rising-with (x ∷ xs) n r = by-bool (ltb x n) refl (eqb x n) refl (rising-with xs n r.1)
  where
    by-bool : (b : Bool) → ltb x n ≡ b → (c : Bool) → eqb x n ≡ c → IsRising (with_number xs n)
        → IsRising (if b then x ∷ with_number xs n else (if c then x ∷ xs else n ∷ x ∷ xs))
    by-bool true q c p ih = (above-with x n xs (ltb-true x n q) r.0, ih)
    by-bool false q true p ih = r
    by-bool false q false p ih = elim (eqb_tells x n) [
      | inl e ↦ absurd (false≢true (sym p ∙ e.0))
      | inr e ↦ let h : n < x = omega (arith, not-below x n q, e.1) in ((h, above-le n x xs (omega (arith, h)) r.0), r)
    ]
