-- Keys that strictly rise: the first of them, and the test of neighbours.
use Rattle.std.proofs.Common.{◌≡◌, refl, ap, subst, true, List, [], ◌∷◌, ◌++◌, get_or, All, Contains, ⊎_elim, Decides, arith}
use Rattle.std.specs.List.Sorted.{IsStrictlySortedBy}
use Rattle.std.specs.Ordering.{is_lt}
use Rattle.std.specs.declared.cmp.Ordering.{Ordering}
use Rattle.std.specs.declared.cmp.Ordering.TheVariants.{Less, Equal, Greater}
use Rattle.std.specs.Cmp.{IsTotalOrder}
use Rattle.std.proofs.lemmas.Bool.{and_parts, and_from}
use Rattle.std.proofs.lemmas.List.Elements.{All-contains, All-from_recursion, recursion_from_All, Contains-get_or, Contains-append_cases}
use Rattle.reachability.proofs.CountLaws.{has_first, has_later, first_or_later}
use Rattle.keyed_lists.specs.Keyed.{rises}

-- what holds of each element
pub all_from : {X : Type 0} (P : X → Type 0) (xs : List X) → ((x : X) → Contains xs x → P x) → All P xs
all_from P xs each k d lt = each (get_or xs k d) (Contains-get_or xs k d lt)

-- ---- keys that rise

module _ {K : Type 0} (R : K → K → Ordering) where
  -- the first of keys that rise is below each behind it
  pub rises_above : (k : K) (ks : List K) → IsStrictlySortedBy R (k ∷ ks) → (j : K) → Contains ks j → R k j ≡ Less
  unfolding IsStrictlySortedBy
  rises_above k ks rising j there = All-contains (λ u. R k u ≡ Less) ks j (All-from_recursion _ ks rising.0) there

  -- what stands behind the first of keys that rise rises
  pub rises_rest : (k : K) (ks : List K) → IsStrictlySortedBy R (k ∷ ks) → IsStrictlySortedBy R ks
  unfolding IsStrictlySortedBy
  rises_rest k ks rising = rising.1

  -- no keys rise
  pub rises_none : IsStrictlySortedBy R []
  unfolding IsStrictlySortedBy
  rises_none = tt

  -- a key below all keys that rise, put before them, rises with them
  pub rises_more : (k : K) (ks : List K) → ((j : K) → Contains ks j → R k j ≡ Less) → IsStrictlySortedBy R ks
      → IsStrictlySortedBy R (k ∷ ks)
  unfolding IsStrictlySortedBy
  rises_more k ks above rising = (recursion_from_All (λ j. R k j ≡ Less) ks (all_from (λ j. R k j ≡ Less) ks above), rising)

  -- keys that rise behind keys that rise and are below them rise together
  pub rises_append : (ks js : List K) → IsStrictlySortedBy R ks → IsStrictlySortedBy R js
      → ((k j : K) → Contains ks k → Contains js j → R k j ≡ Less) → IsStrictlySortedBy R (ks ++ js)
  rises_append [] js front back below = back
  rises_append (k ∷ ks) js front back below = rises_more k (ks ++ js)
      (λ j there. ⊎_elim (λ in_ks. rises_above k ks front j in_ks) (λ in_js. below k j (has_first k ks) in_js)
      (Contains-append_cases ks js j there))
      (rises_append ks js (rises_rest k ks front) back (λ i j in_ks in_js. below i j (has_later k ks i in_ks) in_js))

  -- ---- the test of neighbours

  is_less : (r : Ordering) → is_lt r ≡ true → r ≡ Less
  is_less Less e = refl
  is_less Equal e = cc
  is_less Greater e = cc

  -- the test tells whether keys rise
  pub rises_decides : IsTotalOrder R → (ks : List K) → Decides (rises R ks) (IsStrictlySortedBy R ks)
  rises_decides o [] = (λ e. rises_none, λ rising. refl)
  rises_decides o (k ∷ []) = (λ e. rises_more k [] (λ j there. absurd (omega (arith, there.1))) rises_none, λ rising. refl)
  rises_decides o (k ∷ j ∷ more) =
      let rest = rises_decides o (j ∷ more) in (
        λ e.
            let parts = and_parts (is_lt (R k j)) (rises R (j ∷ more)) e in
            let less : R k j ≡ Less = is_less (R k j) parts.0 in
            let rising = rest.0 parts.1 in
            rises_more k (j ∷ more) (λ i there. ⊎_elim
            (λ same. subst (λ u. R k u ≡ Less) same less) (λ later. o.trans k j i less (rises_above j more rising i later))
            (first_or_later j more i there)) rising,
        λ rising. and_from (is_lt (R k j)) (rises R (j ∷ more)) (ap is_lt (rises_above k (j ∷ more) rising j (has_first j more)))
            (rest.1 (rises_rest k (j ∷ more) rising)),
      )
