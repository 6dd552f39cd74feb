-- How many come before an element is its place in the sort, in any total order.
use Rattle.std.proofs.Common.{◌≡◌, ◌≢◌, refl, sym, ap, ◌∙◌, ℕ, zero, suc, List, [], ◌∷◌, Some, None, arith, slice_get, subst, cond, count_by}
use Rattle.std.specs.List.{AllByRecursion}
use Rattle.std.specs.List.Sorted.{IsPermutation, IsStrictlySortedBy}
use Rattle.std.specs.Ordering.{is_lt, ordering_reverse}
use Rattle.std.specs.declared.cmp.Ordering.{Ordering}
use Rattle.std.specs.declared.cmp.Ordering.TheVariants.{Less, Equal, Greater}
use Rattle.std.specs.Cmp.{IsTotalOrder, tied_itself, bool_cmp_total}
use Rattle.std.proofs.lemmas.Cmp.{nat_cmp_total, on_total, then_total, back_total}
use Rattle.std.proofs.lemmas.List.Sorted.{sum_by-IsPermutation}
use Rattle.std.proofs.lemmas.List.Sums.{sum_by-cons}
use Rattle.std.proofs.lemmas.Map.Keys.{sorted_head, sorted_tail}
use Rattle.version_order.specs.Order.{version_cmp}
use Rattle.version_order.specs.Prefix.{is_special}
use Rattle.version_order.specs.declared.item.Item.{Item as Range}
use Rattle.recipe_data.specs.declared.recipe.VersionRow.{VersionRow}
use Rattle.graph_rules.specs.Weights.{preference, row_cmp}

module _ {K : Type 0} {R : K → K → Ordering} (t : IsTotalOrder R) where
  one_if : K → K → ℕ
  one_if x other = cond (is_lt (R other x)) 1 0

  is_counted : (other x : K) → R other x ≡ Less → one_if x other ≡ 1
  unfolding one_if
  is_counted other x below = rw below refl

  is_passed : (other x : K) (o : Ordering) → R other x ≡ o → o ≢ Less → one_if x other ≡ 0
  unfolding one_if
  is_passed other x Less e over = absurd (over refl)
  is_passed other x Equal e over = rw e refl
  is_passed other x Greater e over = rw e refl

  sum_from : (xs : List K) (x : K) → AllByRecursion (λ other. one_if x other ≡ 0) xs → count_by (λ other. is_lt (R other x)) xs ≡ 0
  unfolding one_if
  sum_from [] x none = refl
  sum_from (y ∷ ys) x none = let rest = sum_from ys x none.1 in let first = none.0 in sum_by-cons (one_if x) y ys
      ∙ omega (arith, first, rest)

  -- what is above an element is not below it
  above : (o : Ordering) → o ≡ Greater → o ≢ Less
  above Less e l = cc
  above Equal e l = cc
  above Greater e l = cc

  none_after : (x : K) (xs : List K) → AllByRecursion (λ other. R x other ≡ Less) xs → AllByRecursion (λ other. one_if x other ≡ 0) xs
  none_after x [] all = tt
  none_after x (y ∷ ys) all =
      (is_passed y x (R y x) refl (above (R y x) (t.antisymm y x ∙ ap ordering_reverse all.0)), none_after x ys all.1)

  -- a fact of each element is one of the k-th
  at_place : (P : K → Type 0) (xs : List K) (k : ℕ) (x : K) → AllByRecursion P xs → slice_get xs k ≡ Some x → P x
  at_place P [] k x all is = absurd (let no : None ≡ Some x = is in cc)
  at_place P (y ∷ ys) zero x all is = let same : y ≡ x = cc in subst P same all.0
  at_place P (y ∷ ys) (suc k) x all is = at_place P ys k x all.1 is

  not_itself : (x : K) → one_if x x ≡ 0
  not_itself x = is_passed x x (R x x) refl (λ e. let both : Less ≡ Equal = sym e ∙ tied_itself t x in absurd cc)

  in_sort : (sorted : List K) (k : ℕ) (x : K) → IsStrictlySortedBy R sorted → slice_get sorted k ≡ Some x
      → count_by (λ other. is_lt (R other x)) sorted ≡ k
  unfolding one_if
  in_sort [] k x order is = absurd (let no : None ≡ Some x = is in cc)
  in_sort (y ∷ ys) zero x order is =
      let same : y ≡ x = cc in
      subst (λ (v : K). count_by (λ other. is_lt (R other v)) (y ∷ ys) ≡ 0) same
      (sum_from (y ∷ ys) y (not_itself y, none_after y ys (sorted_head R y ys order)))
  in_sort (y ∷ ys) (suc k) x order is =
      let first = is_counted y x (at_place (λ other. R y other ≡ Less) ys k x (sorted_head R y ys order) is) in
      let rest : count_by (λ other. is_lt (R other x)) ys ≡ k = in_sort ys k x (sorted_tail R y ys order) is in
      sum_by-cons (one_if x) y ys ∙ omega (arith, first, rest)

  -- as many come before an element as its place in the sort says
  pub place_in_sort : (xs sorted : List K) (k : ℕ) (x : K) → IsPermutation xs sorted → IsStrictlySortedBy R sorted
      → slice_get sorted k ≡ Some x → count_by (λ other. is_lt (R other x)) xs ≡ k
  place_in_sort xs sorted k x moved order is = sym (sum_by-IsPermutation _ xs sorted moved) ∙ in_sort sorted k x order is

-- ---- the sort of declared versions

-- the order of rows is total
pub row_cmp_total : IsTotalOrder version_cmp → (lists : List (List Range)) → IsTotalOrder (row_cmp lists)
unfolding row_cmp
row_cmp_total versions lists =
    then_total (on_total (λ (row : VersionRow). preference lists row.version) nat_cmp_total)
    (then_total (back_total (on_total (λ (row : VersionRow). row.preferred) bool_cmp_total))
    (then_total (on_total (λ (row : VersionRow). row.deprecated) bool_cmp_total)
    (then_total (on_total (λ (row : VersionRow). is_special row.version) bool_cmp_total)
    (back_total (on_total (λ (row : VersionRow). row.version) versions)))))
