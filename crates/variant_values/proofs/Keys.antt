-- Lists of keys that strictly rise: one more key, two lists with the same keys, and a binary search.
use Rattle.std.proofs.Common.{◌≡◌, refl, sym, ap, subst, ◌∙◌, ℕ, zero, suc, ◌+◌, ◌<◌, ◌≤◌, List, [], ◌∷◌, length, get_or, Contains, ◌⊎◌, inl, inr, ⊎_elim, ◌↔◌, arith}
use Rattle.std.specs.List.{insert}
use Rattle.std.specs.List.Sorted.{IsStrictlySortedBy, IsPartitionPoint, IsNonDecreasingBy}
use Rattle.std.specs.Ordering.{ordering_reverse, ordering_index, match_ordering, is_lt}
use Rattle.std.specs.declared.cmp.Ordering.{Ordering}
use Rattle.std.specs.declared.cmp.Ordering.TheVariants.{Less, Equal, Greater}
use Rattle.std.specs.Cmp.{IsTotalOrder, tied_itself}
use Rattle.std.specs.FinMap.{IsAntisymmetric}
use Rattle.std.specs.BTreeSet.{insert_key}
use Rattle.std.proofs.lemmas.Bool.{cases_lt}
use Rattle.std.proofs.lemmas.List.Elements.{All-contains, All-weaker, All-from_recursion, recursion_from_All}
use Rattle.std.proofs.lemmas.List.Sorted.{searchable_from_sorted}
use Rattle.std.proofs.lemmas.Map.Keys.{Less-from_sorted}
use Rattle.std.proofs.lemmas.Map.Views.{All-insert_key}

-- ---- the first key, and the others

module _ {K : Type 0} where
  first_or_later : (x : K) (xs : List K) (q : K) (k : ℕ) → k < length (x ∷ xs) → get_or (x ∷ xs) k q ≡ q → (q ≡ x) ⊎ Contains xs q
  first_or_later x xs q zero lt e = inl (sym e)
  first_or_later x xs q (suc k) lt e = inr (k, omega arith, e)

  -- what a list has is its first element or stands behind it
  pub Contains-cons : (x : K) (xs : List K) (q : K) → Contains (x ∷ xs) q ↔ ((q ≡ x) ⊎ Contains xs q)
  Contains-cons x xs q =
      (λ h. first_or_later x xs q h.0 h.1 h.2, λ h. ⊎_elim (λ e. (0, omega arith, sym e)) (λ r. (suc r.0, omega arith, r.2)) h)

  -- the empty list has nothing
  pub lacks_all : (q : K) → Contains [] q → ⊥
  lacks_all q h = omega (arith, h.1)

module _ {K : Type 0} {R : K → K → Ordering} (o : IsTotalOrder R) where
  turned : (x y : K) (r : Ordering) → R x y ≡ r → R y x ≡ ordering_reverse r
  turned x y r e = o.antisymm y x ∙ ap ordering_reverse e

  not_below_itself : (x : K) → R x x ≡ Less → ⊥
  not_below_itself x e = let both : Less ≡ Equal = sym e ∙ tied_itself o x in absurd (cc)

  not_above_itself : (x : K) → R x x ≡ Greater → ⊥
  not_above_itself x e = let both : Greater ≡ Equal = sym e ∙ tied_itself o x in absurd (cc)

  -- ---- one more key

  module _ (exact : IsAntisymmetric R) where
    -- with one key more a list has that key and what it had
    pub Contains-insert_key : (xs : List K) (k q : K) → Contains (insert_key R xs k) q ↔ ((q ≡ k) ⊎ Contains xs q)
    Contains-insert_key [] k q = Contains-cons k [] q
    Contains-insert_key (x ∷ xs) k q =
        let cons = Contains-cons x xs q in
        let rest = Contains-insert_key xs k q in
        let deep = Contains-cons x (insert_key R xs k) q in
        elim (R k x) as (λ r. R k x ≡ r → Contains (match_ordering r (k ∷ x ∷ xs) (x ∷ xs) (x ∷ insert_key R xs k)) q
        ↔ ((q ≡ k) ⊎ Contains (x ∷ xs) q)) [
          | Less ↦ λ e. Contains-cons k (x ∷ xs) q
          | Equal ↦ λ e. (λ h. inr h, λ h. ⊎_elim (λ is. cons.1 (inl (is ∙ exact k x e))) (λ there. there) h)
          | Greater ↦ λ e. (
            λ h. ⊎_elim (λ is. inr (cons.1 (inl is))) (λ r. ⊎_elim (λ is. inl is) (λ there. inr (cons.1 (inr there))) (rest.0 r))
                (deep.0 h),
            λ h. ⊎_elim (λ is. deep.1 (inr (rest.1 (inl is))))
                (λ c. ⊎_elim (λ is. deep.1 (inl is)) (λ there. deep.1 (inr (rest.1 (inr there)))) (cons.0 c)) h,
          )
        ] refl

  -- one key more keeps the order
  pub IsStrictlySortedBy-insert_key : (xs : List K) (k : K) → IsStrictlySortedBy R xs → IsStrictlySortedBy R (insert_key R xs k)
  unfolding IsStrictlySortedBy
  IsStrictlySortedBy-insert_key [] k s = (tt, tt)
  IsStrictlySortedBy-insert_key (x ∷ xs) k s =
      elim (R k x) as (λ r. R k x ≡ r → IsStrictlySortedBy R (match_ordering r (k ∷ x ∷ xs) (x ∷ xs) (x ∷ insert_key R xs k))) [
        | Less ↦ λ e. (
          (
            e,
            recursion_from_All (λ y. R k y ≡ Less) xs
                (All-weaker (λ y. R x y ≡ Less) (λ y. R k y ≡ Less) (λ y lt. o.trans k x y e lt) xs (All-from_recursion _ xs s.0)),
          ),
          s,
        )
        | Equal ↦ λ e. s
        | Greater ↦ λ e.
            let Above : K → Type 0 = λ y. R x y ≡ Less in (
              recursion_from_All Above _ (All-insert_key R k Above xs (All-from_recursion Above xs s.0) (turned k x Greater e)),
              IsStrictlySortedBy-insert_key xs k s.1,
            )
      ] refl

  -- ---- a gap: each key before a place is below k, and each one from there on is above

  -- a key put where it would stand is one key more
  pub insert-gap : (xs : List K) (k : K) (i : ℕ) → i ≤ length xs → IsPartitionPoint (λ u. R u k ≡ Less) (λ u. R u k ≡ Greater) xs i
      → insert xs i k ≡ insert_key R xs k
  insert-gap [] k zero le gap = refl
  insert-gap [] k (suc i) le gap = absurd (omega (arith, le))
  insert-gap (x ∷ xs) k zero le gap = rw (turned x k Greater (gap.1 0 x (omega arith) (omega arith))) refl
  insert-gap (x ∷ xs) k (suc i) le gap =
      let rest = insert-gap xs k i (omega (arith, le))
      (λ n d a b. gap.0 (suc n) d (omega arith) (omega arith), λ n d a b. gap.1 (suc n) d (omega arith) (omega arith)) in
      rw (turned x k Less (gap.0 0 x (omega arith) (omega arith))) (ap (λ l. x ∷ l) rest)

  -- a key that has a gap is none of the list
  pub lacks_gap : (xs : List K) (k : K) (i : ℕ) → IsPartitionPoint (λ u. R u k ≡ Less) (λ u. R u k ≡ Greater) xs i → Contains xs k → ⊥
  lacks_gap xs k i gap h = ⊎_elim
      (λ lt. not_below_itself k (subst (λ u. R u k ≡ Less) h.2 (gap.0 h.0 k (omega arith) lt)))
      (λ le. not_above_itself k (subst (λ u. R u k ≡ Greater) h.2 (gap.1 h.0 k le h.1)))
      (cases_lt h.0 i)

  -- the comparisons with k rise along the list, as a binary search asks
  pub comparisons_rise : (xs : List K) (k : K) → IsStrictlySortedBy R xs → IsNonDecreasingBy (λ u. ordering_index (R u k)) xs
  comparisons_rise xs k s = searchable_from_sorted o (λ u. u) xs k
      (λ i d a b. ap is_lt (turned _ _ Less (Less-from_sorted R xs i (i + 1) d s (omega arith) b)))

  -- ---- two lists with the same keys

  -- what the first of two lists is to the other, which has it
  no_lower : (x y : K) (xs : List K) → IsStrictlySortedBy R (x ∷ xs) → Contains (x ∷ xs) y → (y ≡ x) ⊎ (R x y ≡ Less)
  unfolding IsStrictlySortedBy
  no_lower x y xs s h = ⊎_elim (λ is. inl is) (λ later. inr (All-contains (λ u. R x u ≡ Less) xs y (All-from_recursion _ xs s.0) later))
      ((Contains-cons x xs y).0 h)

  same_first : (x y : K) (xs ys : List K) → IsStrictlySortedBy R (x ∷ xs) → IsStrictlySortedBy R (y ∷ ys) → Contains (x ∷ xs) y
      → Contains (y ∷ ys) x → x ≡ y
  same_first x y xs ys s t h g =
      ⊎_elim sym (λ lt. ⊎_elim (λ is. is) (λ gt. absurd (not_below_itself x (o.trans x y x lt gt))) (no_lower y x ys t g))
      (no_lower x y xs s h)

  -- a key of the first list's others is one of the second's
  others : (x y q : K) (xs ys : List K) → x ≡ y → IsStrictlySortedBy R (x ∷ xs) → Contains xs q
      → (Contains (x ∷ xs) q → Contains (y ∷ ys) q) → Contains ys q
  unfolding IsStrictlySortedBy
  others x y q xs ys is s h f = ⊎_elim
      (λ e. absurd (not_below_itself x (subst (λ u. R x u ≡ Less) (e ∙ sym is)
      (All-contains (λ u. R x u ≡ Less) xs q (All-from_recursion _ xs s.0) h))))
      (λ later. later)
      ((Contains-cons y ys q).0 (f ((Contains-cons x xs q).1 (inr h))))

  -- keys in order that are the same keys are one list
  pub same_keys : (xs ys : List K) → IsStrictlySortedBy R xs → IsStrictlySortedBy R ys → ((q : K) → Contains xs q ↔ Contains ys q) → xs ≡ ys
  unfolding IsStrictlySortedBy
  same_keys [] [] s t h = refl
  same_keys [] (y ∷ ys) s t h = absurd (lacks_all y ((h y).1 ((Contains-cons y ys y).1 (inl refl))))
  same_keys (x ∷ xs) [] s t h = absurd (lacks_all x ((h x).0 ((Contains-cons x xs x).1 (inl refl))))
  same_keys (x ∷ xs) (y ∷ ys) s t h =
      let is = same_first x y xs ys s t ((h y).1 ((Contains-cons y ys y).1 (inl refl))) ((h x).0 ((Contains-cons x xs x).1 (inl refl))) in
      let rest = same_keys xs ys s.1 t.1 (λ q. (λ a. others x y q xs ys is s a (h q).0, λ b. others y x q ys xs (sym is) t b (h q).1)) in
      λ i. is i ∷ rest i
