-- Variants: their kinds, values and defaults.
use Rattle.std.specs.Prelude.{ℕ, ◌==◌, ◌&&◌, ◌||◌, nat_lt, Bool, true, false, List, [], ◌∷◌, length, map, Option, Some, None, if◌then◌else◌, codes}
use Rattle.std.specs.List.{filter_map, slice_split}
use Rattle.std.specs.Option.{option_to_list, option_map}
use Rattle.std.specs.Str.{str_eq_ignore_ascii_case}
use Rattle.variant_values.specs.Texts.{Texts, with_texts}
use Rattle.variant_values.specs.declared.kind.VariantKind.{VariantKind}
use Rattle.variant_values.specs.declared.kind.VariantKind.TheVariants as variant
use Rattle.spec_grammar.specs.Meaning.{truth}
use Rattle.recipe_values.specs.declared.value.Scalar.{Scalar}
use Rattle.recipe_values.specs.declared.value.Scalar.TheVariants.{Text, Truth}
use Rattle.recipe_values.specs.declared.value.Element.{Element}
use Rattle.recipe_values.specs.declared.value.Value.{Value}
use Rattle.recipe_values.specs.declared.value.Value.TheVariants.{One, Many}
use Rattle.recipe_data.specs.Right.{has_all}
use Rattle.directive_arguments.specs.declared.variant.VariantShape.{VariantShape}
use Rattle.directive_arguments.specs.declared.given.Options.{Options}
use Rattle.directive_arguments.specs.Keywords.{scalar_text, truth_text}

-- ---- without values: on or off

abbrev pub switch_text : List ℕ → Option Bool
switch_text w =
    if str_eq_ignore_ascii_case w (codes "true") then Some true
    else if str_eq_ignore_ascii_case w (codes "false") then Some false
    else None

-- `True`, `False`, or these as texts in any case
abbrev pub switch : Value → Option Bool
switch (One (Truth b)) = Some b
switch (One (Text w)) = switch_text w
switch value = None

abbrev pub bool_shape : Bool → VariantShape
bool_shape on = record { kind = variant.Bool; values = codes "false" ∷ codes "true" ∷ []; default = truth_text on ∷ [] }

-- ---- with values

abbrev pub variant_kind_of : Bool → VariantKind
variant_kind_of true = variant.Multi
variant_kind_of false = variant.Single

abbrev pub scalar_texts : Scalar → Texts
scalar_texts scalar = option_to_list (scalar_text scalar)

-- a text for Multi is cut at commas
abbrev pub cut_texts : List ℕ → Texts
cut_texts w = map truth (slice_split (λ b. b == 44) w)

abbrev pub element_text : Element → Option (List ℕ)
element_text e = scalar_text e.scalar

abbrev pub default_texts : Bool → Value → Texts
default_texts true (One (Text w)) = cut_texts w
default_texts multi (One scalar) = scalar_texts scalar
default_texts multi (Many elements) = filter_map element_text elements

-- one value at least, no other than the allowed ones, and one alone unless Multi
abbrev pub is_right_default : Bool → Texts → Texts → Bool
is_right_default multi values default =
    nat_lt 0 (length default) && (multi || nat_lt (length default) 2) && has_all values default

abbrev pub valued_shape : Bool → Texts → Texts → Option VariantShape
valued_shape multi values default =
    if is_right_default multi values default then Some (record { kind = variant_kind_of multi; values = values; default = default })
    else None

-- ---- what the keywords make; None where the default is missing, empty, not allowed, or more than one for Single

abbrev pub shape_by : Bool → Option Texts → Value → Option VariantShape
shape_by multi None value = option_map bool_shape (switch value)
shape_by multi (Some values) value = valued_shape multi values (with_texts [] (default_texts multi value))

abbrev pub shape_with : Option Value → Bool → Option Texts → Option VariantShape
shape_with None multi values = None
shape_with (Some value) multi values = shape_by multi values value

abbrev pub shape : Options → Option VariantShape
shape o = shape_with o.default o.multi o.values
