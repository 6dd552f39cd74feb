-- Values as sets and targets, and variants in byte order of their names.
use Rattle.std.proofs.Common.{◌≡◌, ℕ, ◌<◌, suc, ◌+◌, Bool, true, false, List, [], ◌∷◌, length, map, Some, None, refl, sym, ap, ◌∙◌, arith, inl, inr, is_some}
use mathlib.Core.Bool.{true≢false}
use Rattle.std.specs.BTreeMap.{insert_entry, is_at}
use Rattle.std.specs.Map.{keys_of, lookup}
use Rattle.std.specs.List.{list_any, position_or_len, before_first, after_first}
use Rattle.std.specs.Str.{bytes_eq}
use Rattle.std.specs.Ordering.{nat_cmp, is_eq, match_ordering}
use Rattle.std.specs.declared.cmp.Ordering.TheVariants.{Less, Equal, Greater}
use Rattle.std.specs.Cmp.Lexicographic.{slice_cmp, nat_list_eq_equiv}
use Rattle.std.proofs.lemmas.Bool.{cases_Bool}
use Rattle.std.proofs.lemmas.Map.Made.{is_some-lookup}
use Rattle.std.proofs.lemmas.Map.Text.{is_eq-slice_cmp}
use Rattle.variant_values.specs.Texts.{with_text, with_texts}
use Rattle.spec_grammar.specs.Meaning.{truth, put_all, target_of, end_of, PartVariants, has_variant, set_at, with_variant}
use Rattle.spec_grammar.specs.Keys.{is_colon}

-- values put one after another
pub put_all-is : (texts values : List (List ℕ)) → with_texts texts (map truth values) ≡ put_all texts values
unfolding put_all with_texts
put_all-is texts [] = refl
put_all-is texts (w ∷ values) = put_all-is (with_text texts (truth w)) values

-- ---- marks between

pub any_some : (p : ℕ → Bool) (w : List ℕ) → position_or_len p w < length w → list_any p w ≡ true
any_some p [] lt = absurd (omega arith)
any_some p (b ∷ w) lt = elim (cases_Bool (p b)) [
  | inl is ↦ rw is refl
  | inr other ↦
      let next : 1 + position_or_len p w < suc (length w) = rw other at lt in
      rw other (any_some p w (omega (arith, next)))
]

pub any_none : (p : ℕ → Bool) (w : List ℕ) → position_or_len p w ≡ length w → list_any p w ≡ false
any_none p [] e = refl
any_none p (b ∷ w) e = elim (cases_Bool (p b)) [
  | inl is ↦ let no : 0 ≡ suc (length w) = rw is at e in absurd (omega arith)
  | inr other ↦
      let next : 1 + position_or_len p w ≡ suc (length w) = rw other at e in
      rw other (any_none p w (omega (arith, next)))
]

-- ---- variants in byte order

same_name : (w v : List ℕ) → is_at (slice_cmp nat_cmp w) v ≡ bytes_eq v w
same_name w v = is_eq-slice_cmp w v ∙ nat_list_eq_equiv.symm w v

named : (w : List ℕ) (variants : PartVariants) → list_any (is_at (slice_cmp nat_cmp w)) (keys_of variants) ≡ has_variant w variants
named w [] = refl
named w (v ∷ variants) = rw (same_name w v.0, named w variants) refl

-- the name is found where it is set
pub has_variant-is : (w : List ℕ) (variants : PartVariants)
    → is_some (lookup (is_at (slice_cmp nat_cmp w)) variants) ≡ has_variant w variants
has_variant-is w variants = is_some-lookup (is_at (slice_cmp nat_cmp w)) variants ∙ named w variants

-- a name that is new goes to its place
pub set-is : (w : List ℕ) (values : List (List ℕ)) (variants : PartVariants) → has_variant w variants ≡ false
    → insert_entry (slice_cmp nat_cmp) variants w values ≡ with_variant (w, values) variants
unfolding with_variant
set-is w values [] new = refl
set-is w values (v ∷ variants) new = elim (cases_Bool (bytes_eq v.0 w)) [
  | inl is ↦ absurd (true≢false (sym (rw is refl) ∙ new))
  | inr other ↦
      let rest = set-is w values variants (rw other at new) in
      elim (slice_cmp nat_cmp w v.0) as (λ r. is_eq r ≡ false
      → match_ordering r ((w, values) ∷ v ∷ variants) ((v.0, values) ∷ variants)
      (v ∷ insert_entry (slice_cmp nat_cmp) variants w values) ≡ set_at r (w, values) v variants (with_variant (w, values) variants)) [
        | Less ↦ λ e. refl
        | Equal ↦ λ e. absurd (true≢false e)
        | Greater ↦ λ e. ap (λ l. v ∷ l) rest
      ] (same_name w v.0 ∙ other)
]

-- ---- targets

pub target_range : (w : List ℕ) → position_or_len is_colon w < length w
    → target_of w ≡ record { low = end_of (before_first is_colon w); high = end_of (after_first is_colon w); range = true }
unfolding target_of
target_range w lt = rw (any_some is_colon w lt) refl

pub target_alone : (w : List ℕ) → position_or_len is_colon w ≡ length w
    → target_of w ≡ record { low = Some (truth w); high = None; range = false }
unfolding target_of
target_alone w e = rw (any_none is_colon w e) refl
