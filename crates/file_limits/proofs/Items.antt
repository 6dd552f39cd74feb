-- The text of an item is at least twice as long as it gives values.
use Rattle.std.proofs.Common.{ℕ, ◌+◌, ◌*◌, ◌≤◌, List, [], ◌∷◌, length, arith, length-append}
use Rattle.spec_grammar.proofs.Common.{AllByRecursion, IsName, IsValue, spell_item, spell_more_values, spell_values, HasShape, AreValues}
use Rattle.spec_grammar.specs.declared.item.SpecItem.{SpecItem}
use Rattle.spec_grammar.specs.declared.item.SpecItem.TheVariants.{Variant, Key}

-- how many values an item gives to variants, at most
abbrev pub item_values : SpecItem → ℕ
item_values (Variant mark w) = 1
item_values (Key w values) = length values
item_values other = 0

name_some : (w : List ℕ) → IsName w → 1 ≤ length w
name_some [] is = absurd cc
name_some (b ∷ w) is = omega arith

value_some : (w : List ℕ) → IsValue w → 1 ≤ length w
value_some [] is = absurd cc
value_some (b ∷ w) is = omega arith

-- each value has a comma before it and a byte of its own
more_room : (values : List (List ℕ)) → AllByRecursion IsValue values → 2 * length values ≤ length (spell_more_values values)
more_room [] are = omega arith
more_room (w ∷ values) are = omega (arith, value_some w are.0, more_room values are.1, length-append w (spell_more_values values))

-- only the first has no comma
values_room : (values : List (List ℕ)) → AreValues values → 2 * length values ≤ length (spell_values values) + 1
values_room [] are = absurd are
values_room (w ∷ values) are = omega (arith, value_some w are.0, more_room values are.1, length-append w (spell_more_values values))

-- an item has two bytes at least for each value that it gives
pub item_room : (item : SpecItem) → HasShape item → 2 * item_values item ≤ length (spell_item item)
item_room (Variant mark w) is = omega (arith, name_some w is)
item_room (Key w values) is = omega (arith, values_room values is.1, length-append w (61 ∷ spell_values values))
item_room other is = omega arith
