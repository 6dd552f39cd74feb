-- Words and sets of them.
use Rattle.std.proofs.Common.{◌≡◌, ◌∙◌, ℕ, Bool, true, false, cond, List, map, refl, sym, ap}
use Rattle.std.specs.Prelude.{Err, Contains, All}
use Rattle.std.specs.Bool.{Decides}
use Rattle.std.specs.Str.{IsUtf8, is_utf8, bytes_eq}
use Rattle.std.specs.Cmp.Lexicographic.{nat_list_eq_equiv}
use Rattle.std.specs.List.{list_any}
use Rattle.std.proofs.lemmas.Str.{IsUtf8-from_is_utf8, is_utf8-from_IsUtf8}
use Rattle.std.proofs.lemmas.Slice.Eq.{bytes_eq-Decides}
use Rattle.std.proofs.lemmas.List.Sums.{AllPass-from_list_all, list_all-from_AllPass}
use Rattle.std.proofs.lemmas.Map.Views.{Contains-from_any, list_any-from_Contains}
use Rattle.std.proofs.lemmas.Simd.{map-map}
use Rattle.variant_values.specs.Texts.{Texts}
use Rattle.spec_grammar.specs.Meaning.{truth}
use Rattle.directive_arguments.specs.declared.fault.ArgumentFault.TheVariants as fault
use Rattle.directive_arguments.specs.Arguments.{once, note}
use Rattle.recipe_data.specs.Right.{has_all}

-- a keyword that is UTF-8 is noted once
pub note_text : (place : ℕ) (w : List ℕ) (names : Texts) → IsUtf8 w → note place w names ≡ once place w names
note_text place w names h = rw (is_utf8-from_IsUtf8 w h) refl

none_by : {A : Type 0} (b : Bool) (a e : A) → (b ≡ true → ⊥) → cond b a e ≡ e
none_by true a e h = absurd (h refl)
none_by false a e h = refl

-- a keyword that is no UTF-8 is refused
pub note_none : (place : ℕ) (w : List ℕ) (names : Texts) → (IsUtf8 w → ⊥) → note place w names ≡ Err (fault.Unsupported place)
note_none place w names h = none_by (is_utf8 w) (once place w names) (Err (fault.Unsupported place)) (λ e. h (IsUtf8-from_is_utf8 w e))

-- ---- sets

-- the test tells whether all texts are among the values
pub has_all_decides : (values texts : Texts) → Decides (has_all values texts) (All (Contains values) texts)
has_all_decides values texts = (
  λ e. λ k d lt. Contains-from_any (λ x y same. (bytes_eq-Decides x y).0 same) _ values
      (AllPass-from_list_all (λ w. list_any (bytes_eq w) values) texts e k d lt),
  λ h. list_all-from_AllPass (λ w. list_any (bytes_eq w) values) texts
      (λ k d lt. list_any-from_Contains nat_list_eq_equiv _ values (h k d lt)),
)

-- ---- pieces of a text

-- truths of what is seen are truths of the texts
pub map_of : {A : Type 0} (now : A → List ℕ) (xs : List A) (ys : Texts) → map now xs ≡ ys → map (λ x. truth (now x)) xs ≡ map truth ys
map_of now xs ys e = sym (map-map truth now xs) ∙ ap (map truth) e
