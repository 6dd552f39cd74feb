-- Sums over plain lists: bounds, and how keys that stand once share out a list.
use Rattle.std.proofs.Common.{◌≡◌, refl, sym, ap, subst, ◌∙◌, ℕ, ◌+◌, ◌*◌, ◌≤◌, Bool, true, false, cond, List, [], ◌∷◌, length, Some, Contains, sum_by, ⊎_elim, arith}
use Rattle.std.specs.List.{filter, find}
use Rattle.std.specs.declared.cmp.Ordering.TheVariants.{Less, Equal}
use Rattle.std.specs.Cmp.Lexicographic.{nat_list_cmp_total}
use Rattle.std.proofs.lemmas.Bool.{false_from_ne_true}
use Rattle.std.proofs.lemmas.Cmp.{tied_itself}
use Rattle.std.proofs.lemmas.List.Sums.{sum_by-cons}
use Rattle.reachability.proofs.CountLaws.{has_first, has_later, first_or_later}
use Rattle.variant_values.specs.Texts.{byte_cmp, IsInByteOrder}
use Rattle.keyed_lists.specs.Given.{adds_or_none}
use Rattle.keyed_lists.proofs.RiseLaws.{rises_above, rises_rest}
use Rattle.graph_core.specs.Graphs.{Text}

-- ---- bounds

-- a sum of smaller terms
pub sum-le-in : {X : Type 0} (f g : X → ℕ) (xs : List X) → ((x : X) → Contains xs x → f x ≤ g x) → sum_by f xs ≤ sum_by g xs
sum-le-in f g [] le = omega arith
sum-le-in f g (x ∷ xs) le =
    let here : f x ≤ g x = le x (has_first x xs) in
    let rest = sum-le-in f g xs (λ y h. le y (has_later x xs y h)) in
    omega (arith, sum_by-cons f x xs, sum_by-cons g x xs)

-- one term is at most the sum
pub sum-at : {X : Type 0} (f : X → ℕ) (xs : List X) (x : X) → Contains xs x → f x ≤ sum_by f xs
sum-at f [] x there = absurd (omega (arith, there.1))
sum-at f (y ∷ ys) x there = ⊎_elim
    (λ same. subst (λ z. f z ≤ sum_by f (y ∷ ys)) same (omega (arith, sum_by-cons f y ys)))
    (λ later. let rest = sum-at f ys x later in omega (arith, sum_by-cons f y ys))
    (first_or_later y ys x there)

-- a sum of sums
pub sum-add : {X : Type 0} (f g : X → ℕ) (xs : List X) → sum_by (λ x. f x + g x) xs ≡ sum_by f xs + sum_by g xs
sum-add f g [] = refl
sum-add f g (x ∷ xs) = omega (arith, sum-add f g xs, sum_by-cons f x xs, sum_by-cons g x xs, sum_by-cons (λ y. f y + g y) x xs)

-- a sum of ones
pub sum-ones : {X : Type 0} (xs : List X) → sum_by (λ x. 1) xs ≡ length xs
sum-ones [] = refl
sum-ones (x ∷ xs) = omega (arith, sum-ones xs, sum_by-cons (λ y. 1) x xs)

-- a sum of equal terms
pub sum-same : {X : Type 0} (k : ℕ) (xs : List X) → sum_by (λ x. k) xs ≡ length xs * k
sum-same k [] = omega arith
sum-same k (x ∷ xs) = omega (arith, sum-same k xs, sum_by-cons (λ y. k) x xs)

-- ---- keys

-- what no key passes adds nothing
none-passes : (n : ℕ) (p : Text → Bool) (ks : List Text) → ((k : Text) → Contains ks k → p k ≡ false) → sum_by (λ k. cond (p k) n 0) ks ≡ 0
none-passes n p [] none = refl
none-passes n p (k ∷ ks) none =
    let here : cond (p k) n 0 ≡ 0 = ap (λ b. cond b n 0) (none k (has_first k ks)) in
    omega (arith, here, sum_by-cons (λ j. cond (p j) n 0) k ks, none-passes n p ks (λ j h. none j (has_later k ks j h)))

module _ (same : Text → Text → Bool) (exact : (a b : Text) → same a b ≡ true → a ≡ b) where
  -- a number that is added at one key alone
  pub once : (t : Text) (n : ℕ) (ks : List Text) → IsInByteOrder ks → sum_by (λ k. cond (same t k) n 0) ks ≤ n
  once t n [] rising = omega arith
  once t n (k ∷ ks) rising = once-cases (once t n ks (rises_rest byte_cmp k ks rising)) (same t k) refl
    where
      once-cases : sum_by (λ j. cond (same t j) n 0) ks ≤ n → (b : Bool) → same t k ≡ b → sum_by (λ j. cond (same t j) n 0) (k ∷ ks) ≤ n
      once-cases others true is =
          let here : cond (same t k) n 0 ≡ n = ap (λ b. cond b n 0) is in
          let rest = none-passes n (same t) ks (λ j there. false_from_ne_true (same t j) (λ also.
          let twice : k ≡ j = sym (exact t k is) ∙ exact t j also in
          let less : byte_cmp k k ≡ Less = ap (byte_cmp k) twice ∙ rises_above byte_cmp k ks rising j there in
          let both : Less ≡ Equal = sym less ∙ tied_itself nat_list_cmp_total k in
          cc)) in
          omega (arith, here, rest, sum_by-cons (λ j. cond (same t j) n 0) k ks)
      once-cases others false is =
          let here : cond (same t k) n 0 ≡ 0 = ap (λ b. cond b n 0) is in
          omega (arith, here, sum_by-cons (λ j. cond (same t j) n 0) k ks)

  module _ {X : Type 0} (f : X → ℕ) (key : X → Text) where
    one-more : (x : X) (xs : List X) (k : Text)
        → sum_by f (filter (λ y. same (key y) k) (x ∷ xs)) ≡ cond (same (key x) k) (f x) 0 + sum_by f (filter (λ y. same (key y) k) xs)
    one-more x xs k = one-more-cases (same (key x) k)
      where
        one-more-cases : (b : Bool) → sum_by f (cond b (x ∷ filter (λ y. same (key y) k) xs) (filter (λ y. same (key y) k) xs))
            ≡ cond b (f x) 0 + sum_by f (filter (λ y. same (key y) k) xs)
        one-more-cases true = sum_by-cons f x (filter (λ y. same (key y) k) xs)
        one-more-cases false = omega arith

    -- what each key has of a list is no more than the list
    pub shared : (ks : List Text) → IsInByteOrder ks → (xs : List X)
        → sum_by (λ k. sum_by f (filter (λ x. same (key x) k) xs)) ks ≤ sum_by f xs
    shared ks rising [] = omega (arith, sum-same 0 ks)
    shared ks rising (x ∷ xs) =
        let here = sum-le-in (λ k. sum_by f (filter (λ y. same (key y) k) (x ∷ xs)))
        (λ k. cond (same (key x) k) (f x) 0 + sum_by f (filter (λ y. same (key y) k) xs)) ks (λ k there. omega (arith, one-more x xs k)) in
        let parts = sum-add (λ k. cond (same (key x) k) (f x) 0) (λ k. sum_by f (filter (λ y. same (key y) k) xs)) ks in
        omega (arith, here, parts, once (key x) (f x) ks rising, shared ks rising xs, sum_by-cons f x xs)

    -- and so is what is found at each key
    pub found : (ks : List Text) → IsInByteOrder ks → (xs : List X)
        → sum_by (λ k. adds_or_none f (find (λ x. same (key x) k) xs)) ks ≤ sum_by f xs
    found ks rising xs =
        omega (
          arith,
          sum-le-in (λ k. adds_or_none f (find (λ x. same (key x) k) xs)) (λ k. sum_by f (filter (λ x. same (key x) k) xs)) ks
              (λ k there. first-of k xs),
          shared ks rising xs,
        )
      where
        first-of : (k : Text) (ys : List X) → adds_or_none f (find (λ x. same (key x) k) ys) ≤ sum_by f (filter (λ x. same (key x) k) ys)
        first-of k [] = omega arith
        first-of k (y ∷ ys) = first-of-cases (same (key y) k) (first-of k ys)
          where
            first-of-cases : (b : Bool) → adds_or_none f (find (λ x. same (key x) k) ys) ≤ sum_by f (filter (λ x. same (key x) k) ys)
                → adds_or_none f (cond b (Some y) (find (λ x. same (key x) k) ys))
                ≤ sum_by f (cond b (y ∷ filter (λ x. same (key x) k) ys) (filter (λ x. same (key x) k) ys))
            first-of-cases true rest = omega (arith, sum_by-cons f y (filter (λ x. same (key x) k) ys))
            first-of-cases false rest = rest
