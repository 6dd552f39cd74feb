-- The items of a text: a NAME that begins a part, a constraint, or `^`.
use Rattle.std.specs.Prelude.{◌≡◌, ℕ, ◌==◌, ◌||◌, Bool, true, false, List, [], ◌∷◌, ◌++◌, drop, Option, Some, None, IfSome, if◌then◌else◌}
use Rattle.std.specs.List.{AllByRecursion}
use Rattle.version_order.specs.Signs.{is_start}
use Rattle.version_order.specs.Fronts.{Begins}
use Rattle.version_order.specs.Items.{Reads, IsList, spelling}
use Rattle.version_order.specs.declared.item.Item.{Item as VersionItem}
use Rattle.spec_grammar.specs.Signs.{IsName, IsValue, is_name_byte, is_value_byte, name_length}
use Rattle.spec_grammar.specs.Keys.{key_of, Takes}
use Rattle.spec_grammar.specs.declared.item.Mark.{Mark}
use Rattle.spec_grammar.specs.declared.item.Mark.TheVariants.{Plus, Tilde, Minus}
use Rattle.spec_grammar.specs.declared.item.SpecItem.{SpecItem}
use Rattle.spec_grammar.specs.declared.item.SpecItem.TheVariants.{Name, Versions, Variant, Compiler, Key, Caret}
use Rattle.spec_grammar.specs.declared.item.Kind.{Kind}
use Rattle.spec_grammar.specs.declared.item.Kind.TheVariants as kind

-- ---- their texts

abbrev pub mark_byte : Mark → ℕ
mark_byte Plus = 43
mark_byte Tilde = 126
mark_byte Minus = 45

-- values, each after a comma
abbrev pub spell_more_values : List (List ℕ) → List ℕ
spell_more_values [] = []
spell_more_values (w ∷ values) = 44 ∷ (w ++ spell_more_values values)

abbrev pub spell_values : List (List ℕ) → List ℕ
spell_values [] = []
spell_values (w ∷ values) = w ++ spell_more_values values

-- `@LIST`, where there is one
abbrev pub spell_list : Option (List VersionItem) → List ℕ
spell_list None = []
spell_list (Some items) = 64 ∷ spelling items

abbrev pub spell_item : SpecItem → List ℕ
spell_item (Name w) = w
spell_item (Versions items) = 64 ∷ spelling items
spell_item (Variant mark w) = mark_byte mark ∷ w
spell_item (Compiler w items) = 37 ∷ (w ++ spell_list items)
spell_item (Key w values) = w ++ 61 ∷ spell_values values
spell_item Caret = 94 ∷ []

-- ---- their form

-- items of a LIST
abbrev pub AreListed : List VersionItem → Type 0
AreListed items = Reads (spelling items) items

-- one VALUE or more
abbrev pub AreValues : List (List ℕ) → Type 0
AreValues [] = ⊥
AreValues (v ∷ values) = AllByRecursion IsValue (v ∷ values)

-- the form of an item, whatever its key takes
abbrev pub HasShape : SpecItem → Type 0
HasShape (Name w) = IsName w
HasShape (Versions items) = AreListed items
HasShape (Variant mark w) = IsName w
HasShape (Compiler w items) = IsName w × IfSome items AreListed
HasShape (Key w values) = IsName w × AreValues values
HasShape Caret = Unit {0}

-- the values of an item are such as its key takes
abbrev pub IsTaken : SpecItem → Type 0
IsTaken (Key w values) = Takes (key_of w) values
IsTaken other = Unit {0}

abbrev pub IsSpecItem : SpecItem → Type 0
IsSpecItem item = HasShape item × IsTaken item

-- ---- their ends

-- a byte of values, or the comma between them
abbrev pub is_run_byte : ℕ → Bool
is_run_byte b = is_value_byte b || b == 44

-- `=`, `:` or `.`
abbrev pub is_name_end : ℕ → Bool
is_name_end b = b == 61 || b == 58 || b == 46

-- an item goes on with this byte: a run is always the longest one. A NAME that is directly followed by
-- `=`, `:` or `.` begins no part, and `^[` is no `^`.
abbrev pub GoesOn : SpecItem → ℕ → Type 0
GoesOn (Name w) b = (is_name_byte b || is_name_end b) ≡ true
GoesOn (Versions items) b = Begins IsList (spelling items ++ b ∷ [])
GoesOn (Variant mark w) b = is_name_byte b ≡ true
GoesOn (Compiler w None) b = (is_name_byte b || b == 64) ≡ true
GoesOn (Compiler w (Some items)) b = Begins IsList (spelling items ++ b ∷ [])
GoesOn (Key w values) b = is_run_byte b ≡ true
GoesOn Caret b = (b == 91) ≡ true

-- the item is over before this text
abbrev pub IsOver : SpecItem → List ℕ → Type 0
IsOver item text = (b : ℕ) (more : List ℕ) → text ≡ b ∷ more → GoesOn item b → ⊥

-- ---- their kinds

abbrev pub kind_of : SpecItem → Kind
kind_of (Name w) = kind.Name
kind_of (Versions items) = kind.Versions
kind_of (Variant mark w) = kind.Variant mark
kind_of (Compiler w items) = kind.Compiler
kind_of (Key w values) = kind.Key
kind_of Caret = kind.Caret

abbrev pub starts_with_byte : ℕ → List ℕ → Bool
starts_with_byte b [] = false
starts_with_byte b (c ∷ rest) = c == b

-- the kind of what begins with this byte, where `rest` is behind the NAME that it begins
abbrev pub kind_by : ℕ → List ℕ → Option Kind
kind_by b rest =
    if b == 64 then Some kind.Versions
    else if b == 43 then Some (kind.Variant Plus)
    else if b == 126 then Some (kind.Variant Tilde)
    else if b == 45 then Some (kind.Variant Minus)
    else if b == 37 then Some kind.Compiler
    else if b == 94 then Some kind.Caret
    else if is_start b then Some (if starts_with_byte 61 rest then kind.Key else kind.Name)
    else None

-- the kind of the item that a text begins with
abbrev pub kind_at : List ℕ → Option Kind
kind_at [] = None
kind_at (b ∷ rest) = kind_by b (drop (name_length (b ∷ rest)) (b ∷ rest))
