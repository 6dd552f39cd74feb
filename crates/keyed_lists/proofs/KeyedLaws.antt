-- Lists in order of a key: one more element, look-ups, and where a search ends.
use Rattle.std.proofs.Common.{◌≡◌, refl, sym, ap, subst, ◌∙◌, ℕ, zero, suc, ◌+◌, ◌<◌, ◌≤◌, true, false, cond, Option, Some, None, List, [], ◌∷◌, length, get_or, map, All, Contains, MatchResult, IsTrue, Result, Ok, Err, ⊎_elim, ◌↔◌, arith}
use Rattle.std.specs.List.{insert}
use Rattle.std.specs.List.Sorted.{IsStrictlySortedBy, IsPartitionPoint, IsNonDecreasingBy, IsSearchInRange, IsBinarySearchResult}
use Rattle.std.specs.Option.{option_map}
use Rattle.std.specs.Ordering.{ordering_index, ordering_reverse, match_ordering, is_lt, is_eq}
use Rattle.std.specs.declared.cmp.Ordering.{Ordering}
use Rattle.std.specs.declared.cmp.Ordering.TheVariants.{Less, Equal, Greater}
use Rattle.std.specs.Cmp.{IsTotalOrder, tied_itself}
use Rattle.std.specs.FinMap.{IsAntisymmetric}
use Rattle.std.specs.BTreeSet.{insert_key}
use Rattle.std.proofs.lemmas.Bool.{cases_lt, cases_order, false≢true}
use Rattle.std.proofs.lemmas.Option.{none-some}
use Rattle.std.proofs.lemmas.List.{get_or-map, length-map}
use Rattle.std.proofs.lemmas.List.Elements.{All-contains, All-from_recursion, All-cons, All-head, All-tail}
use Rattle.std.proofs.lemmas.List.Sorted.{searchable_from_sorted}
use Rattle.std.proofs.lemmas.Map.Keys.{Less-from_sorted}
use Rattle.variant_values.proofs.Keys.{IsStrictlySortedBy-insert_key}
use Rattle.reachability.proofs.CountLaws.{has_first, has_later, first_or_later, has_image}
use Rattle.reachability.specs.Places.{IsAt}
use Rattle.keyed_lists.specs.Keyed.{IsInOrder, find_key, with_one, IsPlaceOf, IsGapFor}

module _ {X K : Type 0} {R : K → K → Ordering} (o : IsTotalOrder R) (exact : IsAntisymmetric R) (key : X → K) where
  -- ---- one more element

  -- the keys with one element more are the keys with one key more
  pub keys-with_one : (xs : List X) (x : X) → map key (with_one R key xs x) ≡ insert_key R (map key xs) (key x)
  keys-with_one [] x = refl
  keys-with_one (y ∷ ys) x =
      elim (R (key x) (key y)) as (λ r. map key (match_ordering r (x ∷ y ∷ ys) (y ∷ ys) (y ∷ with_one R key ys x))
      ≡ match_ordering r (key x ∷ key y ∷ map key ys) (key y ∷ map key ys) (key y ∷ insert_key R (map key ys) (key x))) [
        | Less ↦ refl
        | Equal ↦ refl
        | Greater ↦ ap (λ l. key y ∷ l) (keys-with_one ys x)
      ]

  -- one element more keeps the order
  pub in_order-with_one : (xs : List X) (x : X) → IsInOrder R key xs → IsInOrder R key (with_one R key xs x)
  in_order-with_one xs x ordered = rw (keys-with_one xs x) (IsStrictlySortedBy-insert_key o (map key xs) (key x) ordered)

  -- what holds of all elements and of one more holds of all with that one
  pub all-with_one : (P : X → Type 0) (xs : List X) (x : X) → All P xs → P x → All P (with_one R key xs x)
  all-with_one P [] x all this = All-cons P x [] this all
  all-with_one P (y ∷ ys) x all this =
      let rest = all-with_one P ys x (All-tail P y ys all) this in
      elim (R (key x) (key y)) as (λ r. All P (match_ordering r (x ∷ y ∷ ys) (y ∷ ys) (y ∷ with_one R key ys x))) [
        | Less ↦ All-cons P x (y ∷ ys) this all
        | Equal ↦ all
        | Greater ↦ All-cons P y (with_one R key ys x) (All-head P y ys all) rest
      ]

  turned : (a b : K) (r : Ordering) → R a b ≡ r → R b a ≡ ordering_reverse r
  turned a b r e = o.antisymm b a ∙ ap ordering_reverse e

  -- an element put where its key would stand is one element more
  pub insert-at_gap : (xs : List X) (x : X) (i : ℕ) → IsGapFor R key xs (key x) i → insert xs i x ≡ with_one R key xs x
  insert-at_gap xs x i gap = inserted_at xs i gap.within gap.parted
    where
      inserted_at : (xs : List X) (i : ℕ) → i ≤ length xs
          → IsPartitionPoint (λ u. R (key u) (key x) ≡ Less) (λ u. R (key u) (key x) ≡ Greater) xs i
          → insert xs i x ≡ with_one R key xs x
      inserted_at [] zero le parted = refl
      inserted_at [] (suc i) le parted = absurd (omega (arith, le))
      inserted_at (y ∷ ys) zero le parted = rw (turned (key y) (key x) Greater (parted.1 0 x (omega arith) (omega arith))) refl
      inserted_at (y ∷ ys) (suc i) le parted =
          let rest = inserted_at ys i (omega (arith, le)) (
            λ n d a b. parted.0 (suc n) d (omega arith) (omega arith),
            λ n d a b. parted.1 (suc n) d
                (omega arith) (omega arith),
          ) in
          rw (turned (key y) (key x) Less (parted.0 0 x (omega arith) (omega arith))) (ap (λ l. y ∷ l) rest)

  -- ---- where a binary search ends

  -- the key at an earlier place is below the one at a later place
  pub key_less : (xs : List X) (i j : ℕ) (d : X) → IsInOrder R key xs → i < j → j < length xs
      → R (key (get_or xs i d)) (key (get_or xs j d)) ≡ Less
  key_less xs i j d ordered lt within =
      ap (λ u. R u (key (get_or xs j d))) (sym (get_or-map key xs i d (key d) (omega (arith, lt, within))))
      ∙ ap (R (get_or (map key xs) i (key d))) (sym (get_or-map key xs j d (key d) within))
      ∙ Less-from_sorted R (map key xs) i j (key d) ordered lt (omega (arith, within, length-map xs key))

  rising : (xs : List X) (k : K) → IsInOrder R key xs → IsNonDecreasingBy (λ x. ordering_index (R (key x) k)) xs
  rising xs k ordered = searchable_from_sorted o key xs k
      (λ i d a b. ap is_lt (turned _ _ Less (key_less xs i (i + 1) d ordered (omega arith) b)))

  -- where a binary search ends is the place of the key or the gap for it
  pub search_ends : (xs : List X) (k : K) (r : Result ℕ ℕ) → IsInOrder R key xs → IsSearchInRange r (length xs)
      → IsBinarySearchResult (λ x. R (key x) k) xs r → MatchResult r (IsPlaceOf R key xs k) (IsGapFor R key xs k)
  search_ends xs k (Ok i) ordered within is = record { within = within; there = is }
  search_ends xs k (Err i) ordered within is = record { within = within; parted = is (rising xs k ordered) }

  -- ---- look-ups

  -- nothing is found where no element has the key
  pub find_none : (xs : List X) (k : K) → ((x : X) → Contains xs x → R (key x) k ≡ Equal → ⊥) → find_key R key xs k ≡ None
  find_none [] k lacks = refl
  find_none (x ∷ xs) k lacks =
      let rest = find_none xs k (λ y there. lacks y (has_later x xs y there)) in
      (elim (R (key x) k) as (λ r. (r ≡ Equal → ⊥) → cond (is_eq r) (Some x) (find_key R key xs k) ≡ None) [
        | Less ↦ λ f. rest
        | Equal ↦ λ f. absurd (f refl)
        | Greater ↦ λ f. rest
      ]) (lacks x (has_first x xs))

  -- an element with the key is what is found
  pub find_some : (xs : List X) (k : K) (x : X) → IsInOrder R key xs → Contains xs x → R (key x) k ≡ Equal → find_key R key xs k ≡ Some x
  unfolding IsStrictlySortedBy
  find_some [] k x ordered there is = absurd (omega (arith, there.1))
  find_some (y ∷ ys) k x ordered there is = ⊎_elim
      (λ e. let same : R (key y) k ≡ Equal = ap (λ z. R (key z) k) e ∙ is in rw same (ap (λ z. Some z) e))
      (λ later.
      let less : R (key y) k ≡ Less = subst (λ u. R (key y) u ≡ Less) (exact (key x) k is)
      (All-contains (λ u. R (key y) u ≡ Less) (map key ys) (key x) (All-from_recursion _ (map key ys) ordered.0)
      (has_image key ys x later)) in
      rw less (find_some ys k x ordered.1 later is))
      (first_or_later y ys x there)

  -- nothing is found at the key that a gap is for
  pub find_gap : (xs : List X) (k : K) (i : ℕ) → IsGapFor R key xs k i → find_key R key xs k ≡ None
  find_gap xs k i gap = find_none xs k (λ x there is. ⊎_elim
      (λ lt. let e : Less ≡ Equal = sym (subst (λ u. R (key u) k ≡ Less) there.2 (gap.parted.0 there.0 x (omega arith) lt))
      ∙ is in absurd (cc))
      (λ le. let e : Greater ≡ Equal = sym (subst (λ u. R (key u) k ≡ Greater) there.2 (gap.parted.1 there.0 x le there.1))
      ∙ is in absurd (cc))
      (cases_lt there.0 i))

  -- what stands at the place of a key is what is found
  pub find_place : (xs : List X) (k : K) (i : ℕ) (x : X) → IsInOrder R key xs → IsPlaceOf R key xs k i → x ≡ get_or xs i x
      → find_key R key xs k ≡ Some x
  find_place xs k i x ordered place is = find_some xs k x ordered (i, place.within, sym is)
      (subst (λ u. R (key u) k ≡ Equal) (sym is) (place.there x))

  -- ---- the keys

  known_first : (x : X) (xs : List X) (k : K) → Contains (map key (x ∷ xs)) k
      → (Contains (map key xs) k → (y : X) × (find_key R key xs k ≡ Some y)) → (r : Ordering) → R (key x) k ≡ r → (y : X)
      × (cond (is_eq r) (Some x) (find_key R key xs k) ≡ Some y)
  known_first x xs k there rest r e = elim r as (λ r. R (key x) k ≡ r → (y : X)
      × (cond (is_eq r) (Some x) (find_key R key xs k) ≡ Some y)) [
        | Less ↦ λ e. rest (later (λ is. let same : Less ≡ Equal = sym e ∙ is in cc))
        | Equal ↦ λ e. (x, refl)
        | Greater ↦ λ e. rest (later (λ is. let same : Greater ≡ Equal = sym e ∙ is in cc))
      ] e
    where
      later : (R (key x) k ≡ Equal → ⊥) → Contains (map key xs) k
      later differs = ⊎_elim (λ is. absurd (differs (ap (R (key x)) (sym is) ∙ tied_itself o (key x)))) (λ rest. rest)
          (first_or_later (key x) (map key xs) k there)

  -- something is found at each key of the list
  pub find_known : (xs : List X) (k : K) → Contains (map key xs) k → (x : X) × (find_key R key xs k ≡ Some x)
  find_known [] k there = absurd (omega (arith, there.1))
  find_known (x ∷ xs) k there = known_first x xs k there (find_known xs k) (R (key x) k) refl

  -- the key that a gap is for is none of the list
  pub lacks_key : (xs : List X) (k : K) (i : ℕ) → IsGapFor R key xs k i → Contains (map key xs) k → ⊥
  lacks_key xs k i gap there = none-some _ (sym (find_gap xs k i gap) ∙ (find_known xs k there).1)

  -- at the place of a key stands that key
  pub key_at : (xs : List X) (k : K) (i : ℕ) → IsPlaceOf R key xs k i → IsAt (map key xs) k i
  key_at xs k i place = (omega (arith, place.within, length-map xs key), stands xs i place.within (λ d. exact _ _ (place.there d)))
    where
      stands : (xs : List X) (i : ℕ) → i < length xs → ((d : X) → key (get_or xs i d) ≡ k) → get_or (map key xs) i k ≡ k
      stands [] i lt is = absurd (omega (arith, lt))
      stands (x ∷ xs) zero lt is = is x
      stands (x ∷ xs) (suc i) lt is = stands xs i (omega (arith, lt)) is

  -- a key that has a place is one of the list
  pub has_key : (xs : List X) (k : K) (i : ℕ) → IsPlaceOf R key xs k i → Contains (map key xs) k
  has_key xs k i place = let at = key_at xs k i place in (i, at.0, at.1)

  -- each key stands at one place
  pub one_place : (keys : List K) → IsStrictlySortedBy R keys → (k : K) (i j : ℕ) → IsAt keys k i → IsAt keys k j → i ≡ j
  one_place keys ordered k i j at_i at_j =
      ⊎_elim (λ e. e) (λ apart. ⊎_elim (λ lt. absurd (below i j lt at_i at_j)) (λ gt. absurd (below j i gt at_j at_i)) apart)
      (cases_order i j)
    where
      below : (i j : ℕ) → i < j → IsAt keys k i → IsAt keys k j → ⊥
      below i j lt at_i at_j =
          let less : R k k ≡ Less = ap (λ u. R u k) (sym at_i.1) ∙ ap (R (get_or keys i k)) (sym at_j.1)
          ∙ Less-from_sorted R keys i j k ordered lt at_j.0 in
          let same : Less ≡ Equal = sym less ∙ tied_itself o k in cc

  -- something is found at a key that has a place
  pub place_known : (xs : List X) (k : K) (i : ℕ) → IsPlaceOf R key xs k i → find_key R key xs k ≡ None → ⊥
  place_known xs k i place none = none-some _ (sym none ∙ (find_known xs k (has_key xs k i place)).1)

-- what a call tells where it adds nothing, and where it adds
pub told_false : {P : Type 0} → (P → ⊥) → IsTrue false ↔ P
told_false no_p = (λ t. absurd (false≢true t), λ p. absurd (no_p p))

-- `true` is right where what it tells holds
pub told_true : {P : Type 0} → P → IsTrue true ↔ P
told_true p = (λ _. p, λ _. refl)

-- what is mapped is nothing only where there was nothing
pub none_from_map : {X Y : Type 0} (f : X → Y) (r : Option X) → option_map f r ≡ None → r ≡ None
none_from_map f None e = refl
none_from_map f (Some x) e = absurd (none-some (f x) (sym e))
