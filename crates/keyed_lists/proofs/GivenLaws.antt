-- Lists of what a function gives at keys that rise: they are in order, are looked up as the function tells, and each list in order is one.
use Rattle.std.proofs.Common.{◌≡◌, refl, sym, ap, subst, ◌∙◌, ℕ, ◌+◌, Bool, ◌&&◌, Option, Some, None, List, [], ◌∷◌, map, All, Contains, ⊎_elim, sum_by, arith}
use Rattle.std.specs.List.{filter_map, cons_option, list_all}
use Rattle.std.specs.List.Sorted.{IsStrictlySortedBy}
use Rattle.std.specs.declared.cmp.Ordering.{Ordering}
use Rattle.std.specs.declared.cmp.Ordering.TheVariants.{Less, Equal}
use Rattle.std.specs.Cmp.{IsTotalOrder, tied_itself}
use Rattle.std.specs.FinMap.{IsAntisymmetric}
use Rattle.std.proofs.lemmas.Option.{none-some}
use Rattle.std.proofs.lemmas.List.Elements.{All-contains}
use Rattle.std.proofs.lemmas.List.Sums.{sum_by-cons}
use Rattle.reachability.proofs.CountLaws.{has_first, has_later, first_or_later, image_of}
use Rattle.keyed_lists.specs.Given.{passes_or_none, adds_or_none}
use Rattle.keyed_lists.specs.Keyed.{IsInOrder, find_key}
use Rattle.keyed_lists.specs.Laws.{IsKeyed}
use Rattle.keyed_lists.proofs.KeyedLaws.{find_none}
use Rattle.keyed_lists.proofs.RiseLaws.{rises_above, rises_rest, rises_none, rises_more}
use Rattle.keyed_lists.proofs.LookupLaws.{find_sound, same_lists}

-- ---- what is given

module _ {K X : Type 0} (given : K → Option X) where
  -- each element of what is given at keys is what one of them gives
  pub given_at : (ks : List K) (x : X) → Contains (filter_map given ks) x → (k : K) × Contains ks k × (given k ≡ Some x)
  given_at [] x there = absurd (omega (arith, there.1))
  given_at (k ∷ ks) x there = given_by_key (given k) refl there (given_at ks x)
    where
      later : ((j : K) × Contains ks j × (given j ≡ Some x)) → (j : K) × Contains (k ∷ ks) j × (given j ≡ Some x)
      later w = (w.0, has_later k ks w.0 w.1, w.2)

      given_by_key : (r : Option X) → given k ≡ r → Contains (cons_option r (filter_map given ks)) x
          → (Contains (filter_map given ks) x → (j : K) × Contains ks j × (given j ≡ Some x)) → (j : K) × Contains (k ∷ ks) j
          × (given j ≡ Some x)
      given_by_key None is there rest = later (rest there)
      given_by_key (Some y) is there rest = ⊎_elim (λ e. (k, has_first k ks, is ∙ ap (λ z. Some z) e)) (λ in_rest. later (rest in_rest))
          (first_or_later y (filter_map given ks) x there)

  -- a test of all that is given, as a test at each key
  pub list_all-filter_map : (test : X → Bool) (ks : List K)
      → list_all test (filter_map given ks) ≡ list_all (λ k. passes_or_none test (given k)) ks
  list_all-filter_map test [] = refl
  list_all-filter_map test (k ∷ ks) =
      let rest = list_all-filter_map test ks in
      elim (given k) as (λ r. list_all test (cons_option r (filter_map given ks))
      ≡ (passes_or_none test r && list_all (λ j. passes_or_none test (given j)) ks)) [
        | None ↦ rest
        | Some x ↦
            ap (λ b. test x && b) rest
      ]

  -- a sum over all that is given, as a sum over the keys
  pub sum_by-filter_map : (cost : X → ℕ) (ks : List K) → sum_by cost (filter_map given ks) ≡ sum_by (λ k. adds_or_none cost (given k)) ks
  sum_by-filter_map cost [] = refl
  sum_by-filter_map cost (k ∷ ks) = step (given k) (filter_map given ks) (sum_by (λ j. adds_or_none cost (given j)) ks)
      (sum_by-filter_map cost ks) ∙ sym (sum_by-cons (λ j. adds_or_none cost (given j)) k ks)
    where
      step : (r : Option X) (xs : List X) (n : ℕ) → sum_by cost xs ≡ n → sum_by cost (cons_option r xs) ≡ adds_or_none cost r + n
      step None xs n e = omega (arith, e)
      step (Some x) xs n e = sum_by-cons cost x xs ∙ omega (arith, e)

-- what agrees at each of the keys gives the same list
pub filter_map-agree : {K X : Type 0} (f g : K → Option X) (ks : List K) → ((k : K) → Contains ks k → f k ≡ g k)
    → filter_map f ks ≡ filter_map g ks
filter_map-agree f g [] same = refl
filter_map-agree f g (k ∷ ks) same = rw (same k (has_first k ks), filter_map-agree f g ks (λ j there. same j (has_later k ks j there))) refl

module _ {X K : Type 0} {R : K → K → Ordering} (o : IsTotalOrder R) (exact : IsAntisymmetric R) (key : X → K) where
  not_tied : (a b : K) → R a b ≡ Less → a ≡ b → ⊥
  not_tied a b less e = let both : Less ≡ Equal = sym less ∙ ap (R a) (sym e) ∙ tied_itself o a in cc

  module _ (given : K → Option X) (keyed : IsKeyed key given) where
    -- what is given at keys that rise is in order
    pub in_order-filter_map : (ks : List K) → IsStrictlySortedBy R ks → IsInOrder R key (filter_map given ks)
    in_order-filter_map [] rising = rises_none R
    in_order-filter_map (k ∷ ks) rising = in_order_by_key (given k) refl (in_order-filter_map ks (rises_rest R k ks rising))
      where
        in_order_by_key : (r : Option X) → given k ≡ r → IsInOrder R key (filter_map given ks)
            → IsInOrder R key (cons_option r (filter_map given ks))
        in_order_by_key None is rest = rest
        in_order_by_key (Some x) is rest = rises_more R (key x) (map key (filter_map given ks)) (λ j there.
            let from = image_of key (filter_map given ks) j there in
            let at = given_at given ks from.0 from.1 in
            let is_j : at.0 ≡ j = sym (keyed at.0 from.0 at.2) ∙ from.2 in
            rw (keyed k x is) (subst (λ u. R k u ≡ Less) is_j (rises_above R k ks rising at.0 at.1))) rest

    -- what is given at keys that rise is looked up as it was given
    pub find-filter_map : (ks : List K) (k : K) → IsStrictlySortedBy R ks → Contains ks k → find_key R key (filter_map given ks) k ≡ given k
    find-filter_map [] k rising there = absurd (omega (arith, there.1))
    find-filter_map (j ∷ js) k rising there = ⊎_elim (λ e. here (given j) refl e)
        (λ later. behind (given j) refl later (find-filter_map js k (rises_rest R j js rising) later)) (first_or_later j js k there)
      where
        lacks : j ≡ k → find_key R key (filter_map given js) k ≡ None
        lacks e = find_none o exact key (filter_map given js) k (λ y in_rest tie.
            let at = given_at given js y in_rest in
            not_tied j at.0 (rises_above R j js rising at.0 at.1) (e ∙ sym (exact (key y) k tie) ∙ keyed at.0 y at.2))

        here : (r : Option X) → given j ≡ r → j ≡ k → find_key R key (cons_option r (filter_map given js)) k ≡ given k
        here None is e = lacks e ∙ sym (ap given (sym e) ∙ is)
        here (Some x) is e = let tie : R (key x) k ≡ Equal = ap (λ u. R u k) (keyed j x is ∙ e) ∙ tied_itself o k in
            rw tie (sym (ap given (sym e) ∙ is))

        behind : (r : Option X) → given j ≡ r → Contains js k → find_key R key (filter_map given js) k ≡ given k
            → find_key R key (cons_option r (filter_map given js)) k ≡ given k
        behind None is later rest = rest
        behind (Some x) is later rest =
            let less : R (key x) k ≡ Less = ap (λ u. R u k) (keyed j x is) ∙ rises_above R j js rising k later in
            rw less rest

  -- ---- each list in order is what it gives at keys among which its own are

  -- what is found at a key has that key
  pub keyed_found : (xs : List X) → IsKeyed key (find_key R key xs)
  keyed_found xs k x found = (find_sound o exact key xs k x found).1

  -- a list in order is what its look-ups give, at keys among which its own are
  pub is_given : (ks : List K) (xs : List X) → IsStrictlySortedBy R ks → IsInOrder R key xs → All (λ x. Contains ks (key x)) xs
      → xs ≡ filter_map (find_key R key xs) ks
  is_given ks xs rising ordered within = same_lists o exact key xs again ordered
      (in_order-filter_map (find_key R key xs) (keyed_found xs) ks rising) (λ k. alike k (find_key R key xs k) refl)
    where
      again : List X
      again = filter_map (find_key R key xs) ks

      alike : (k : K) (r : Option X) → find_key R key xs k ≡ r → find_key R key xs k ≡ find_key R key again k
      alike k (Some x) is =
          let found = find_sound o exact key xs k x is in
          sym (find-filter_map (find_key R key xs) (keyed_found xs) ks k rising
          (subst (Contains ks) found.1 (All-contains (λ y. Contains ks (key y)) xs x within found.0)))
      alike k None is = is ∙ none (find_key R key again k) refl
        where
          none : (r : Option X) → find_key R key again k ≡ r → None ≡ find_key R key again k
          none None e = sym e
          none (Some y) e =
              let found = find_sound o exact key again k y e in
              let at = given_at (find_key R key xs) ks y found.0 in
              absurd (none-some y (sym is ∙ ap (find_key R key xs) (sym found.1 ∙ keyed_found xs at.0 y at.2) ∙ at.2))
