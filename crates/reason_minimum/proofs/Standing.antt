-- Which numbers stand in parts of a list.
use Prim.Native.Nat.{zero, suc}
use Rattle.std.proofs.Common.{◌≡◌, ℕ, Bool, true, false, ◌||◌, ◌&&◌, List, [], ◌∷◌, drop, inl, inr, refl, sym, ◌∙◌, ap, arith, cond, eqb}
use Rattle.std.specs.List.{filter}
use Rattle.std.proofs.lemmas.Bool.{false≢true, or_right}
use Rattle.std.proofs.lemmas.Bool.Decides.{eqb_tells}
use Rattle.explain_failure.specs.Uses.{stands, AllNumbersAbove, IsRising}

-- what a filter keeps
pub stands-filter : (p : ℕ → Bool) (xs : List ℕ) (d : ℕ) → stands (filter p xs) d ≡ (stands xs d && p d)
stands-filter p [] d = refl
stands-filter p (x ∷ xs) d = elim (eqb_tells x d) [
  | inl q ↦ here (p x) refl (stands-filter p xs d) q.0 q.1
  | inr q ↦ there (p x) (stands-filter p xs d) q.0
]
  where
    same : (a b : Bool) → a ≡ true → (a || b) ≡ true
    same true b e = refl
    same false b e = absurd (false≢true e)

    passed : (a b c : Bool) → a ≡ true → b ≡ true → ((a || c) && b) ≡ true
    passed true true c e f = refl
    passed true false c e f = absurd (false≢true f)
    passed false b c e f = absurd (false≢true e)

    out : (a b : Bool) → b ≡ false → (a && b) ≡ false
    out true b e = e
    out false b e = refl

    here : (b : Bool) → p x ≡ b → stands (filter p xs) d ≡ (stands xs d && p d) → eqb x d ≡ true → x ≡ d
        → stands (cond b (x ∷ filter p xs) (filter p xs)) d ≡ ((eqb x d || stands xs d) && p d)
    here true q ih e f = same (eqb x d) (stands (filter p xs) d) e ∙ sym (passed (eqb x d) (p d) (stands xs d) e (ap p (sym f) ∙ q))
    here false q ih e f = let g : p d ≡ false = ap p (sym f) ∙ q in
        ih ∙ out (stands xs d) (p d) g ∙ sym (out (eqb x d || stands xs d) (p d) g)

    skip : (a b : Bool) → a ≡ false → (a || b) ≡ b
    skip true b e = absurd (false≢true (sym e))
    skip false b e = refl

    there : (b : Bool) → stands (filter p xs) d ≡ (stands xs d && p d) → eqb x d ≡ false
        → stands (cond b (x ∷ filter p xs) (filter p xs)) d ≡ ((eqb x d || stands xs d) && p d)
    there true ih e = skip (eqb x d) (stands (filter p xs) d) e ∙ ih
        ∙ ap (λ b. b && p d) (sym (skip (eqb x d) (stands xs d) e))
    there false ih e = ih ∙ ap (λ b. b && p d) (sym (skip (eqb x d) (stands xs d) e))

-- what stands behind the first ones stands in the list
pub stands-drop : (n : ℕ) (xs : List ℕ) (d : ℕ) → stands (drop n xs) d ≡ true → stands xs d ≡ true
stands-drop zero xs d s = s
stands-drop (suc n) [] d s = s
stands-drop (suc n) (x ∷ xs) d s = or_right (eqb x d) (stands xs d) (stands-drop n xs d s)

above-filter : (m : ℕ) (p : ℕ → Bool) (xs : List ℕ) → AllNumbersAbove m xs → AllNumbersAbove m (filter p xs)
above-filter m p [] a = tt
above-filter m p (x ∷ xs) a = by-bool (p x) (above-filter m p xs a.1)
  where
    by-bool : (b : Bool) → AllNumbersAbove m (filter p xs) → AllNumbersAbove m (cond b (x ∷ filter p xs) (filter p xs))
    by-bool true ih = (a.0, ih)
    by-bool false ih = ih

-- a part of a list that rises rises
pub rising-filter : (p : ℕ → Bool) (xs : List ℕ) → IsRising xs → IsRising (filter p xs)
rising-filter p [] r = tt
rising-filter p (x ∷ xs) r = by-bool (p x) (rising-filter p xs r.1)
  where
    by-bool : (b : Bool) → IsRising (filter p xs) → IsRising (cond b (x ∷ filter p xs) (filter p xs))
    by-bool true ih = (above-filter x p xs r.0, ih)
    by-bool false ih = ih

pub rising-drop : (n : ℕ) (xs : List ℕ) → IsRising xs → IsRising (drop n xs)
rising-drop zero xs r = r
rising-drop (suc n) [] r = r
rising-drop (suc n) (x ∷ xs) r = rising-drop n xs r.1

-- the first number of a list that rises stands in it once
pub above-away : (x : ℕ) (xs : List ℕ) → AllNumbersAbove x xs → stands xs x ≡ false
above-away x [] a = refl
above-away x (y ∷ ys) a = elim (eqb_tells y x) [
  | inl q ↦ absurd (omega (arith, q.1, a.0))
  | inr q ↦ ap (λ b. b || stands ys x) q.0 ∙ above-away x ys a.1
]
