-- What variants are has a right default.
use Rattle.std.proofs.Common.{◌≡◌, ℕ, ◌<◌, Bool, true, false, cond, [], length, refl, arith}
use Rattle.std.specs.Prelude.{Option, Some, None, IfSome, ◌&&◌, ◌||◌, nat_lt}
use Rattle.std.specs.Option.{option_map}
use Rattle.std.proofs.lemmas.Bool.{ltb-true, eq-eqb, and_parts, and_from}
use Rattle.variant_values.specs.Texts.{Texts, with_texts}
use Rattle.recipe_values.specs.declared.value.Value.{Value}
use Rattle.recipe_data.specs.Right.{has_all, is_count_of}
use Rattle.directive_arguments.specs.Said.{IsShape}
use Rattle.directive_arguments.specs.Variants.{switch, bool_shape, variant_kind_of, default_texts, is_right_default, shape_by, shape_with}

count_is : (multi : Bool) (n : ℕ) → nat_lt 0 n ≡ true → (multi || nat_lt n 2) ≡ true → is_count_of (variant_kind_of multi) n ≡ true
count_is true n some e = some
count_is false n some e =
    let above : 0 < n = ltb-true 0 n some in
    let below : n < 2 = ltb-true n 2 e in
    eq-eqb n 1 (omega (arith, above, below))

valued_is : (b : Bool) (multi : Bool) (values default : Texts) → is_right_default multi values default ≡ b
    → IfSome (cond b (Some (record { kind = variant_kind_of multi; values = values; default = default })) None) IsShape
valued_is true multi values default e =
    let n = length default in
    let outer = and_parts (nat_lt 0 n && (multi || nat_lt n 2)) (has_all values default) e in
    let inner = and_parts (nat_lt 0 n) (multi || nat_lt n 2) outer.0 in
    and_from (has_all values default) (is_count_of (variant_kind_of multi) n) outer.1 (count_is multi n inner.0 inner.1)
valued_is false multi values default e = tt

bool_is : (b : Bool) → IsShape (bool_shape b)
bool_is true = refl
bool_is false = refl

switch_is : (o : Option Bool) → IfSome (option_map bool_shape o) IsShape
switch_is None = tt
switch_is (Some b) = bool_is b

shape_is_by : (multi : Bool) (values : Option Texts) (value : Value) → IfSome (shape_by multi values value) IsShape
shape_is_by multi None value = switch_is (switch value)
shape_is_by multi (Some values) value = valued_is (is_right_default multi values default) multi values default refl
  where
    default : Texts
    default = with_texts [] (default_texts multi value)

-- a variant's default is right
pub shape_is : (default : Option Value) (multi : Bool) (values : Option Texts) → IfSome (shape_with default multi values) IsShape
shape_is None multi values = tt
shape_is (Some value) multi values = shape_is_by multi values value
