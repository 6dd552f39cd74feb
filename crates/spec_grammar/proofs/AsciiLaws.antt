-- Texts of the right form are ASCII.
use Rattle.std.proofs.Common.{◌≡◌, ℕ, ◌<◌, true, List, [], ◌∷◌, Some, None, Option, IfSome, arith, Bool}
use Rattle.std.specs.Str.{IsAscii}
use Rattle.std.specs.List.{AllByRecursion, list_all}
use Rattle.std.proofs.lemmas.Bool.{and_parts}
use Rattle.std.proofs.lemmas.Bool.Decides.{nat_tests}
use Rattle.std.proofs.lemmas.Str.{IsAscii-append}
use Rattle.std.proofs.lemmas.Str.Ascii.{IsAscii-nil, IsAscii-cons}
use Rattle.version_order.specs.Signs.{is_start, is_version_byte, IsVersion}
use Rattle.version_order.specs.Items.{IsItem as IsRange, spelling, spell as spell_range, spell_more as spell_ranges, written}
use Rattle.version_order.specs.declared.item.Item.{Item as VersionItem}
use Rattle.version_order.specs.declared.item.Item.TheVariants as range
use Rattle.spec_grammar.specs.Signs.{is_white, AreWhite, IsName, IsValue}
use Rattle.spec_grammar.specs.Items.{spell_item, spell_more_values, HasShape, mark_byte}
use Rattle.spec_grammar.specs.Right.{AreRight, spell_steps, ItemStep}
use Rattle.spec_grammar.specs.Reading.{Spells}
use Rattle.spec_grammar.specs.declared.item.Mark.{Mark}
use Rattle.spec_grammar.specs.declared.item.Mark.TheVariants.{Plus, Tilde, Minus}
use Rattle.spec_grammar.specs.declared.item.SpecItem.{SpecItem}
use Rattle.spec_grammar.specs.declared.item.SpecItem.TheVariants.{Name, Versions, Variant, Compiler, Key, Caret}
use Rattle.spec_grammar.specs.declared.mode.Mode.{Mode}
use Rattle.spec_grammar.specs.declared.part.Spec.{Spec}
use Rattle.spec_grammar.proofs.RunLaws.{bytes_ascii, value_run, name_run, name_value}

-- bytes of one kind that is ASCII
kind_ascii : (p : ℕ → Bool) → ((b : ℕ) → p b ≡ true → b < 128) → (w : List ℕ) → list_all p w ≡ true → IsAscii w
kind_ascii p small [] h = IsAscii-nil
kind_ascii p small (b ∷ w) h =
    let q = and_parts (p b) (list_all p w) h in
    IsAscii-cons b w (small b q.0) (kind_ascii p small w q.1)

white_byte : (b : ℕ) → is_white b ≡ true → b < 128
white_byte b h = grind (arith, nat_tests)

version_byte : (b : ℕ) → is_version_byte b ≡ true → b < 128
version_byte b h = grind (arith, nat_tests)

start_byte : (b : ℕ) → is_start b ≡ true → b < 128
start_byte b h = grind (arith, nat_tests)

version_ascii : (w : List ℕ) → IsVersion w → IsAscii w
version_ascii [] h = IsAscii-nil
version_ascii (b ∷ w) h =
    let q = and_parts (is_start b) (list_all is_version_byte w) h in
    IsAscii-cons b w (start_byte b q.0) (kind_ascii is_version_byte version_byte w q.1)

name_ascii : (w : List ℕ) → IsName w → IsAscii w
name_ascii w h = bytes_ascii w (name_value w (name_run w h))

-- ---- LIST

end_ascii : (w : Option (List ℕ)) → IfSome w IsVersion → IsAscii (written w)
end_ascii None h = IsAscii-nil
end_ascii (Some w) h = version_ascii w h

range_ascii : (item : VersionItem) → IsRange item → IsAscii (spell_range item)
range_ascii (range.Exact w) h = IsAscii-cons 61 w (omega arith) (version_ascii w h)
range_ascii (range.Prefix w) h = version_ascii w h
range_ascii (range.Range low high) h = IsAscii-append (written low) (58 ∷ written high) (end_ascii low h.0)
    (IsAscii-cons 58 (written high) (omega arith) (end_ascii high h.1))

ranges_ascii : (items : List VersionItem) → AllByRecursion IsRange items → IsAscii (spell_ranges items)
ranges_ascii [] h = IsAscii-nil
ranges_ascii (x ∷ items) h = IsAscii-cons 44 _ (omega arith)
    (IsAscii-append (spell_range x) (spell_ranges items) (range_ascii x h.0) (ranges_ascii items h.1))

list_ascii : (items : List VersionItem) → AllByRecursion IsRange items → IsAscii (spelling items)
list_ascii [] h = IsAscii-nil
list_ascii (x ∷ items) h = IsAscii-append (spell_range x) (spell_ranges items) (range_ascii x h.0) (ranges_ascii items h.1)

-- ---- items

more_ascii : (values : List (List ℕ)) → AllByRecursion IsValue values → IsAscii (spell_more_values values)
more_ascii [] h = IsAscii-nil
more_ascii (v ∷ values) h = IsAscii-cons 44 _ (omega arith)
    (IsAscii-append v (spell_more_values values) (bytes_ascii v (value_run v h.0)) (more_ascii values h.1))

mark_ascii : (mark : Mark) → mark_byte mark < 128
mark_ascii Plus = omega arith
mark_ascii Tilde = omega arith
mark_ascii Minus = omega arith

item_ascii : (item : SpecItem) → HasShape item → IsAscii (spell_item item)
item_ascii (Name w) h = name_ascii w h
item_ascii (Versions items) h = IsAscii-cons 64 _ (omega arith) (list_ascii items h.each)
item_ascii (Variant mark w) h = IsAscii-cons (mark_byte mark) w (mark_ascii mark) (name_ascii w h)
item_ascii (Compiler w None) h = IsAscii-cons 37 _ (omega arith) (IsAscii-append w [] (name_ascii w h.0) IsAscii-nil)
item_ascii (Compiler w (Some items)) h = IsAscii-cons 37 _ (omega arith)
    (IsAscii-append w _ (name_ascii w h.0) (IsAscii-cons 64 _ (omega arith) (list_ascii items h.1.each)))
item_ascii (Key w []) h = absurd h.1
item_ascii (Key w (v ∷ values)) h = IsAscii-append w _ (name_ascii w h.0)
    (IsAscii-cons 61 _ (omega arith) (IsAscii-append v (spell_more_values values) (bytes_ascii v (value_run v h.1.0))
    (more_ascii values h.1.1)))
item_ascii Caret h = IsAscii-cons 94 [] (omega arith) IsAscii-nil

-- ---- texts

white_ascii : (gap : List ℕ) → AreWhite gap → IsAscii gap
white_ascii gap h = kind_ascii is_white white_byte gap h

steps_ascii : (mode : Mode) (last : Option SpecItem) (steps : List ItemStep) → AreRight mode last steps → IsAscii (spell_steps steps)
steps_ascii mode last [] h = IsAscii-nil
steps_ascii mode last (s ∷ steps) h = IsAscii-append _ (spell_steps steps)
    (IsAscii-append s.gap (spell_item s.item) (white_ascii s.gap h.0.white) (item_ascii s.item h.0.form.0))
    (steps_ascii mode (Some s.item) steps h.1)

pub right_ascii : (mode : Mode) (text : List ℕ) (specs : List Spec) → Spells mode text specs → IsAscii text
right_ascii mode text specs spells =
    let cut = spells.is.cut in
    rw cut.spelled (IsAscii-append (spell_steps spells.read.steps) spells.read.trail (steps_ascii mode None spells.read.steps cut.right)
    (white_ascii spells.read.trail cut.white))
