-- Many texts at once: put one after another, or sorted with each kept once.
use Rattle.std.proofs.Common.{◌≡◌, ℕ, List, [], ◌∷◌, Contains, ◌↔◌, ◌⊎◌, inl, inr, ⊎_elim, sym, nat_eq}
use Rattle.std.specs.List.{dedup}
use Rattle.std.specs.List.Sorted.{IsPermutation, IsSorted, IsStrictlySortedBy}
use Rattle.std.specs.Cmp.Lexicographic.{pointwise, nat_list_cmp_total, nat_list_eq_equiv, same_text, texts_ties}
use Rattle.std.proofs.lemmas.List.Kept.{Contains-dedup, Contains-from_dedup, IsStrictlySortedBy-dedup}
use Rattle.std.proofs.lemmas.List.Sorted.{Contains-permutation, IsPermutation-sym}
use Rattle.variant_values.specs.Texts.{Texts, byte_cmp, IsInByteOrder, HaveSameTexts, with_text, with_texts}
use Rattle.variant_values.proofs.Keys.{Contains-cons, lacks_all}
use Rattle.variant_values.proofs.Texts.{same_texts, adds_text, with_text_in_order}

-- ---- one after another

with_texts_in_order : (texts words : Texts) → IsInByteOrder texts → IsInByteOrder (with_texts texts words)
unfolding with_texts
with_texts_in_order texts [] ordered = ordered
with_texts_in_order texts (word ∷ words) ordered = with_texts_in_order (with_text texts word) words (with_text_in_order texts word ordered)

Contains-with_texts : (texts words : Texts) (q : List ℕ) → Contains (with_texts texts words) q ↔ (Contains words q ⊎ Contains texts q)
unfolding with_texts
Contains-with_texts texts [] q = (λ h. inr h, λ h. ⊎_elim (λ no. absurd (lacks_all q no)) (λ there. there) h)
Contains-with_texts texts (word ∷ words) q =
    let cons = Contains-cons word words q in
    let adds = adds_text texts word q in
    let rest = Contains-with_texts (with_text texts word) words q in (
      λ h. ⊎_elim (λ later. inl (cons.1 (inr later))) (λ there. ⊎_elim (λ is. inl (cons.1 (inl is))) (λ old. inr old) (adds.0 there))
          (rest.0 h),
      λ h. ⊎_elim (λ new. ⊎_elim (λ is. rest.1 (inr (adds.1 (inl is)))) (λ later. rest.1 (inl later)) (cons.0 new))
          (λ old. rest.1 (inr (adds.1 (inr old)))) h,
    )

none_in_order : IsInByteOrder []
unfolding IsStrictlySortedBy
none_in_order = tt

-- the one list in order that has just these texts
pub one_by_one : (kept words : Texts) → IsInByteOrder kept → HaveSameTexts kept words → kept ≡ with_texts [] words
one_by_one kept words ordered same = same_texts _ _ ordered (with_texts_in_order [] words none_in_order) (λ q.
    let all = Contains-with_texts [] words q in
    (λ h. all.1 (inl ((same q).0 h)), λ h. ⊎_elim (λ there. (same q).1 there) (λ no. absurd (lacks_all q no)) (all.0 h)))

-- ---- sorted, each once

-- a sorted list without its repeats is in byte order
pub once_in_order : (sorted : Texts) → IsSorted byte_cmp sorted → IsInByteOrder (dedup (pointwise nat_eq) sorted)
once_in_order = IsStrictlySortedBy-dedup nat_list_cmp_total texts_ties

-- a sorted list without its repeats has the same texts
pub once_same : (words sorted : Texts) → IsPermutation words sorted → HaveSameTexts (dedup (pointwise nat_eq) sorted) words
once_same words sorted moved q = (
  λ h. Contains-permutation sorted words q (IsPermutation-sym words sorted moved) (Contains-from_dedup (pointwise nat_eq) sorted q h),
  λ h. Contains-dedup nat_list_eq_equiv (λ x y e. same_text x y (sym e)) sorted q (Contains-permutation words sorted q moved h),
)
