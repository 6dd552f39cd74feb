-- Lists in order by a text: the lemmas of lists by a key, at the byte order.
use Rattle.std.proofs.Common.{◌≡◌, refl, sym, ap, ◌∙◌, ℕ, Bool, true, List, length, get_or, map, Contains, MatchResult, Result, Ok, Err, IsTrue, is_ok, ◌↔◌, Some, None, Decides}
use Rattle.std.specs.Cmp.{tied_itself}
use Rattle.std.specs.Cmp.Lexicographic.{nat_list_cmp_total}
use Rattle.std.specs.List.{insert}
use Rattle.std.specs.List.Sorted.{IsSearchInRange, IsBinarySearchResult}
use Rattle.std.specs.Ordering.{is_eq, eq_by_cmp}
use Rattle.std.specs.declared.cmp.Ordering.{Ordering}
use Rattle.std.specs.declared.cmp.Ordering.TheVariants.{Less, Equal, Greater}
use Rattle.std.proofs.lemmas.Bool.{false≢true}
use Rattle.variant_values.specs.Texts.{byte_cmp}
use Rattle.variant_values.proofs.Texts.{ties_are_equal}
use Rattle.keyed_lists.specs.Keyed.{IsInOrder, find_key, with_one, IsPlaceOf, IsGapFor}
use Rattle.keyed_lists.proofs.KeyedLaws as keyed

-- texts are one where they compare as equal
pub texts_decide : (p q : List ℕ) → Decides (eq_by_cmp byte_cmp p q) (p ≡ q)
texts_decide p q =
    (λ e. equal_by_order (byte_cmp p q) (ties_are_equal p q) e, λ e. ap is_eq (ap (byte_cmp p) (sym e) ∙ tied_itself nat_list_cmp_total p))
  where
    equal_by_order : (r : Ordering) → (r ≡ Equal → p ≡ q) → is_eq r ≡ true → p ≡ q
    equal_by_order Less f e = absurd (cc)
    equal_by_order Equal f e = f refl
    equal_by_order Greater f e = absurd (cc)

module _ {X : Type 0} (key : X → List ℕ) (xs : List X) (k : List ℕ) where
  -- where a binary search for a text ends is its place or the gap for it
  pub search_ends : (r : Result ℕ ℕ) → IsInOrder byte_cmp key xs → IsSearchInRange r (length xs)
      → IsBinarySearchResult (λ x. byte_cmp (key x) k) xs r → MatchResult r (IsPlaceOf byte_cmp key xs k) (IsGapFor byte_cmp key xs k)
  search_ends = keyed.search_ends nat_list_cmp_total ties_are_equal key xs k

  -- a search tells whether the key is there
  pub told_key : (r : Result ℕ ℕ) (is : Bool) → MatchResult r (IsPlaceOf byte_cmp key xs k) (IsGapFor byte_cmp key xs k) → is ≡ is_ok r
      → IsTrue is ↔ Contains (map key xs) k
  told_key (Ok i) is place e = (λ _. keyed.has_key nat_list_cmp_total ties_are_equal key xs k i place, λ _. e)
  told_key (Err i) is gap e =
      (λ t. absurd (false≢true (sym e ∙ t)), λ has. absurd (keyed.lacks_key nat_list_cmp_total ties_are_equal key xs k i gap has))

  module _ (i : ℕ) where
    -- what stands at the place of a text is what is found
    pub found : (x : X) → IsInOrder byte_cmp key xs → IsPlaceOf byte_cmp key xs k i → x ≡ get_or xs i x
        → Some x ≡ find_key byte_cmp key xs k
    found x ordered place is = sym (keyed.find_place nat_list_cmp_total ties_are_equal key xs k i x ordered place is)

    -- nothing is found at the text that a gap is for
    pub not_found : IsGapFor byte_cmp key xs k i → find_key byte_cmp key xs k ≡ None
    not_found = keyed.find_gap nat_list_cmp_total ties_are_equal key xs k i

    -- something is found at a text that has a place
    pub is_found : IsPlaceOf byte_cmp key xs k i → find_key byte_cmp key xs k ≡ None → ⊥
    is_found = keyed.place_known nat_list_cmp_total ties_are_equal key xs k i

-- an element put where its text would stand is one element more
pub put_in_gap : {X : Type 0} (key : X → List ℕ) (xs : List X) (x : X) (i : ℕ) → IsGapFor byte_cmp key xs (key x) i
    → insert xs i x ≡ with_one byte_cmp key xs x
put_in_gap key = keyed.insert-at_gap nat_list_cmp_total ties_are_equal key
