-- A variant has no more values than its keywords say, but for the two of one that is on or off.
use Rattle.std.proofs.Common.{ℕ, ◌+◌, ◌≤◌, Bool, true, false, List, [], ◌∷◌, length, arith}
use Rattle.std.specs.Prelude.{Option, Some, None, IfSome, ◌==◌}
use Rattle.std.specs.List.{filter_map, cons_option, slice_split}
use Rattle.std.specs.Option.{option_map}
use Rattle.std.proofs.lemmas.List.{length-map}
use Rattle.std.proofs.lemmas.List.Sums.{count_by-le-length}
use Rattle.std.proofs.lemmas.List.Splits.{length-slice_split}
use Rattle.variant_values.specs.Texts.{Texts, with_texts}
use Rattle.spec_grammar.specs.Meaning.{truth}
use Rattle.recipe_values.specs.declared.value.Scalar.{Scalar}
use Rattle.recipe_values.specs.declared.value.Scalar.TheVariants as scalar
use Rattle.recipe_values.specs.declared.value.Value.{Value}
use Rattle.recipe_values.specs.declared.value.Value.TheVariants.{One, Many}
use Rattle.directive_arguments.specs.declared.given.Options.{Options}
use Rattle.directive_arguments.specs.declared.variant.VariantShape.{VariantShape}
use Rattle.directive_arguments.specs.Variants.{switch, bool_shape, variant_kind_of, scalar_texts, element_text, default_texts, is_right_default, shape_by, shape_with, shape}
use Rattle.recipe_lexer.proofs.Keeping.{cond_all}
use Rattle.file_limits.proofs.Sizes.{scalar_size, value_size}
use Rattle.file_limits.proofs.ArgumentSizes.{values_size, default_size, options_size, set-few}

-- ---- defaults

filter_map-few : {X Y : Type 0} (f : X → Option Y) (xs : List X) → length (filter_map f xs) ≤ length xs
filter_map-few f [] = omega arith
filter_map-few {Y = Y} f (x ∷ xs) = filter_map-few-cases (filter_map-few f xs) (f x)
  where
    filter_map-few-cases : length (filter_map f xs) ≤ length xs → (o : Option Y)
        → length (cons_option o (filter_map f xs)) ≤ length (x ∷ xs)
    filter_map-few-cases rest None = omega arith
    filter_map-few-cases rest (Some y) = omega arith

one-few : (s : Scalar) → length (scalar_texts s) ≤ scalar_size s
one-few (scalar.Text w) = omega arith
one-few (scalar.Number w) = omega arith
one-few (scalar.Truth b) = omega arith
one-few scalar.Nothing = omega arith
one-few scalar.Nested = omega arith

-- a text has at most one part more than it has bytes
default-few : (multi : Bool) (value : Value) → length (default_texts multi value) ≤ value_size value
default-few true (One (scalar.Text w)) =
    let is_comma : ℕ → Bool = λ b. b == 44 in
    omega (
      arith,
      length-map (slice_split is_comma w) truth,
      length-slice_split is_comma w,
      count_by-le-length is_comma w,
    )
default-few true (One (scalar.Number w)) = one-few (scalar.Number w)
default-few true (One (scalar.Truth b)) = one-few (scalar.Truth b)
default-few true (One scalar.Nothing) = one-few scalar.Nothing
default-few true (One scalar.Nested) = one-few scalar.Nested
default-few true (Many elements) = filter_map-few element_text elements
default-few false (One (scalar.Text w)) = one-few (scalar.Text w)
default-few false (One (scalar.Number w)) = one-few (scalar.Number w)
default-few false (One (scalar.Truth b)) = one-few (scalar.Truth b)
default-few false (One scalar.Nothing) = one-few scalar.Nothing
default-few false (One scalar.Nested) = one-few scalar.Nested
default-few false (Many elements) = filter_map-few element_text elements

-- ---- shapes

abbrev Within : ℕ → Option VariantShape → Type 0
Within n o = IfSome o (λ made. length made.values + length made.default ≤ n + 3)

switch-within : (n : ℕ) (o : Option Bool) → Within n (option_map bool_shape o)
switch-within n None = tt
switch-within n (Some on) = omega arith

by-within : (multi : Bool) (values : Option Texts) (value : Value)
    → Within (values_size values + value_size value) (shape_by multi values value)
by-within multi None value = switch-within (0 + value_size value) (switch value)
by-within multi (Some values) value =
    let default : Texts = with_texts [] (default_texts multi value) in
    cond_all (Within (length values + value_size value)) (is_right_default multi values default)
    (Some (record { kind = variant_kind_of multi; values = values; default = default })) None
    (λ e. omega (arith, default-few multi value, set-few [] (default_texts multi value))) (λ e. tt)

with-within : (default : Option Value) (multi : Bool) (values : Option Texts)
    → Within (values_size values + default_size default) (shape_with default multi values)
with-within None multi values = tt
with-within (Some value) multi values = by-within multi values value

-- the values of a variant are no larger than its options, but for the three that nobody writes
pub shape-fits : (o : Options) → IfSome (shape o) (λ made. length made.values + length made.default ≤ options_size o + 3)
shape-fits o = with-within o.default o.multi o.values
