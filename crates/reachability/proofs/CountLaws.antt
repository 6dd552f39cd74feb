-- Counts and least elements of lists.
use Rattle.std.proofs.Common.{◌≡◌, refl, ap, subst, ◌∙◌, ℕ, zero, suc, ◌<◌, ◌≤◌, Bool, true, false, cond, List, [], ◌∷◌, length, get_or, map, Contains, ◌⊎◌, inl, inr, ⊎_elim, arith}
use Rattle.std.specs.List.{count_by}
use Rattle.std.proofs.lemmas.List.Sums.{sum_by-cons}

module _ {X : Type 0} where
  -- a list has its first element
  pub has_first : (x : X) (xs : List X) → Contains (x ∷ xs) x
  has_first x xs = (0, omega arith, refl)

  -- a list has what stands behind its first element
  pub has_later : (x : X) (xs : List X) (q : X) → Contains xs q → Contains (x ∷ xs) q
  has_later x xs q h = (suc h.0, omega arith, h.2)

  -- what a list has is its first element or stands behind it
  pub first_or_later : (x : X) (xs : List X) (q : X) → Contains (x ∷ xs) q → (x ≡ q) ⊎ Contains xs q
  first_or_later x xs q h = at_place h.0 h.1 h.2
    where
      at_place : (k : ℕ) → k < length (x ∷ xs) → get_or (x ∷ xs) k q ≡ q → (x ≡ q) ⊎ Contains xs q
      at_place zero lt e = inl e
      at_place (suc k) lt e = inr (k, omega arith, e)

  -- ---- counts by two tests, the first of which implies the second

  module _ (p q : X → Bool) (implies : (x : X) → p x ≡ true → q x ≡ true) where
    one_le : (a b : Bool) → (a ≡ true → b ≡ true) → cond a 1 0 ≤ cond b 1 0
    one_le true b f = rw (f refl) (omega arith)
    one_le false b f = omega arith

    tested : (a b : Bool) → a ≡ b → cond a 1 0 ≡ cond b (suc 0) 0
    tested a b e = ap (λ t. cond t 1 0) e

    -- no more pass the first test
    pub count_le : (xs : List X) → count_by p xs ≤ count_by q xs
    count_le [] = omega arith
    count_le (x ∷ xs) =
        omega (
          arith,
          sum_by-cons (λ y. cond (p y) 1 0) x xs,
          sum_by-cons (λ y. cond (q y) 1 0) x xs,
          count_le xs,
          one_le (p x)
              (q x) (implies x),
        )

    -- fewer pass the first test, where an element passes the second alone
    pub count_less : (xs : List X) (x : X) → Contains xs x → p x ≡ false → q x ≡ true → count_by p xs < count_by q xs
    count_less [] x h p_no q_yes = absurd (omega (arith, h.1))
    count_less (y ∷ ys) x h p_no q_yes =
        let by_p = sum_by-cons (λ z. cond (p z) 1 0) y ys in
        let by_q = sum_by-cons (λ z. cond (q z) 1 0) y ys in
        ⊎_elim
        (λ e. let none = tested (p y) false (ap p e ∙ p_no) in let one = tested (q y) true (ap q e ∙ q_yes) in
        omega (arith, by_p, by_q, count_le ys, none, one))
        (λ later. omega (arith, by_p, by_q, count_less ys x later p_no q_yes, one_le (p y) (q y) (implies y)))
        (first_or_later y ys x h)

  -- ---- an element of the least number

  -- some element of a list that is not empty has the least number
  pub least : (f : X → ℕ) (x : X) (xs : List X) → (m : X) × Contains (x ∷ xs) m × ((y : X) → Contains (x ∷ xs) y → f m ≤ f y)
  least f x [] =
      (x, has_first x [], λ y h. ⊎_elim (λ e. rw e (omega arith)) (λ later. absurd (omega (arith, later.1))) (first_or_later x [] y h))
  least f x (z ∷ zs) =
      let low = least f z zs in
      ⊎_elim
      (λ (le : f x ≤ f low.0). (
        x,
        has_first x (z ∷ zs),
        λ y h. ⊎_elim (λ e. rw e (omega arith)) (λ later. omega (arith, le, low.2 y later))
            (first_or_later x (z ∷ zs) y h),
      ))
      (λ (gt : f low.0 < f x). (
        low.0,
        has_later x (z ∷ zs) low.0 low.1,
        λ y h. ⊎_elim (λ e. rw (← e) (omega (arith, gt)))
            (λ later. low.2 y later) (first_or_later x (z ∷ zs) y h),
      ))
      (cases_le (f x) (f low.0))
    where
      cases_le : (a b : ℕ) → (a ≤ b) ⊎ (b < a)
      cases_le a b = grind arith

-- the image of an element is one of the images
pub has_image : {X Y : Type 0} (f : X → Y) (xs : List X) (x : X) → Contains xs x → Contains (map f xs) (f x)
has_image f [] x h = absurd (omega (arith, h.1))
has_image f (y ∷ ys) x h = ⊎_elim (λ e. subst (Contains (map f (y ∷ ys))) (ap f e) (has_first (f y) (map f ys)))
    (λ later. has_later (f y) (map f ys) (f x) (has_image f ys x later)) (first_or_later y ys x h)

-- each of the images is that of an element
pub image_of : {X Y : Type 0} (f : X → Y) (xs : List X) (y : Y) → Contains (map f xs) y → (x : X) × Contains xs x × (f x ≡ y)
image_of f [] y there = absurd (omega (arith, there.1))
image_of f (x ∷ xs) y there = ⊎_elim
    (λ e. (x, has_first x xs, e))
    (λ later. let rest = image_of f xs y later in (rest.0, has_later x xs rest.0 rest.1, rest.2))
    (first_or_later (f x) (map f xs) y there)
