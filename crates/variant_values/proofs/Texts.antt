-- Texts in byte order: one more text, two lists with the same texts, and where a search ends.
use Rattle.std.proofs.Common.{◌≡◌, sym, ◌∙◌, ℕ, Bool, length, Contains, Result, Ok, Err, OnOk, IfErr, IsTrue, is_ok, ◌↔◌, List, inr, ⊎_elim, subst}
use mathlib.Core.Bool.{true≢false}
use Rattle.std.specs.List.{insert}
use Rattle.std.specs.List.Sorted.{IsSearchInRange, IsBinarySearchResult}
use Rattle.std.specs.Cmp.Lexicographic.{nat_list_cmp_total}
use Rattle.std.specs.FinMap.{IsAntisymmetric, nat_cmp-IsAntisymmetric, slice_cmp-IsAntisymmetric}
use Rattle.variant_values.specs.Texts.{Texts, byte_cmp, IsInByteOrder, HaveSameTexts, AddsText, with_text, IsGapFor}
use Rattle.variant_values.proofs.Keys.{Contains-insert_key, IsStrictlySortedBy-insert_key, insert-gap, lacks_gap, comparisons_rise, same_keys}

-- texts that compare as equal are one
pub ties_are_equal : IsAntisymmetric byte_cmp
ties_are_equal = slice_cmp-IsAntisymmetric nat_cmp-IsAntisymmetric

-- two lists in order with the same texts are one
pub same_texts : (a b : Texts) → IsInByteOrder a → IsInByteOrder b → HaveSameTexts a b → a ≡ b
same_texts = same_keys nat_list_cmp_total

-- one more text
pub adds_text : (texts : Texts) (text : List ℕ) → AddsText texts text (with_text texts text)
adds_text = Contains-insert_key nat_list_cmp_total ties_are_equal

-- one text more keeps the order
pub with_text_in_order : (texts : Texts) (text : List ℕ) → IsInByteOrder texts → IsInByteOrder (with_text texts text)
with_text_in_order = IsStrictlySortedBy-insert_key nat_list_cmp_total

-- a text put where it would stand is one text more
pub insert-at_gap : (texts : Texts) (text : List ℕ) (i : ℕ) → IsGapFor texts text i → insert texts i text ≡ with_text texts text
insert-at_gap texts text i gap = insert-gap nat_list_cmp_total texts text i gap.within gap.parted

-- a text that has a gap is none of the list
pub gap_lacks : (texts : Texts) (text : List ℕ) (i : ℕ) → IsGapFor texts text i → Contains texts text → ⊥
gap_lacks texts text i gap = lacks_gap nat_list_cmp_total texts text i gap.parted

-- a binary search ends at the text, or at the gap for it
pub found : (texts : Texts) (text : List ℕ) (r : Result ℕ ℕ) → IsSearchInRange r (length texts)
    → IsBinarySearchResult (λ u. byte_cmp u text) texts r → OnOk r (Contains texts text)
found texts text (Ok i) within is = (i, within, ties_are_equal _ _ (is text))
found texts text (Err i) within is = tt

-- a search that finds no place finds the gap
pub absent : (texts : Texts) (text : List ℕ) (r : Result ℕ ℕ) → IsInByteOrder texts → IsSearchInRange r (length texts)
    → IsBinarySearchResult (λ u. byte_cmp u text) texts r → IfErr r (IsGapFor texts text)
absent texts text (Ok i) ordered within is = tt
absent texts text (Err i) ordered within is =
    record { within = within; parted = is (comparisons_rise nat_list_cmp_total texts text ordered) }

-- and tells so whether they have it
pub decides_search : (texts : Texts) (text : List ℕ) (r : Result ℕ ℕ) (is : Bool) → OnOk r (Contains texts text)
    → IfErr r (IsGapFor texts text) → is ≡ is_ok r → IsTrue is ↔ Contains texts text
decides_search texts text (Ok i) is has gap e = (λ _. has, λ _. e)
decides_search texts text (Err i) is has gap e = (λ t. absurd (true≢false (sym t ∙ e)), λ h. absurd (gap_lacks texts text i gap h))

-- a text that is there adds none
pub with_known : (texts : Texts) (text : List ℕ) → IsInByteOrder texts → Contains texts text → with_text texts text ≡ texts
with_known texts text ordered h = same_texts _ _ (with_text_in_order texts text ordered) ordered (λ q. (
  λ a. ⊎_elim (λ e. subst (Contains texts) (sym e) h) (λ there. there) ((adds_text texts text q).0 a),
  λ there. (adds_text texts text q).1 (inr there),
))
