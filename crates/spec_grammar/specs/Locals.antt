-- What the reader of one item tells: its places count from the item's first byte.
use Rattle.std.specs.Prelude.{◌≡◌, ◌<◌, ◌≤◌, ℕ, ◌+◌, ◌^◌, Bool, true, false, List, [], ◌∷◌, ◌++◌, length, take, drop, Some, None, ◌⊎◌, if◌then◌else◌}
use Rattle.version_order.specs.Fronts.{IsLongestFront}
use Rattle.version_order.specs.Items.{Reads, IsList, first_empty}
use Rattle.version_order.specs.declared.item.Item.{Item as VersionItem}
use Rattle.spec_grammar.specs.Keys.{Takes}
use Rattle.spec_grammar.specs.Items.{kind_of, kind_at, spell_item, spell_values, IsSpecItem, AreValues, is_run_byte}
use Rattle.spec_grammar.specs.declared.key.KeyKind.{KeyKind}
use Rattle.spec_grammar.specs.Right.{may_name, may_stand}
use Rattle.spec_grammar.specs.Forms.{form_at}
use Rattle.spec_grammar.specs.Reading.{IsFirst, empty_place}
use Rattle.spec_grammar.specs.declared.item.SpecItem.{SpecItem}
use Rattle.spec_grammar.specs.declared.item.Kind.{Kind}
use Rattle.spec_grammar.specs.declared.item.Kind.TheVariants as kind
use Rattle.spec_grammar.specs.declared.mode.Mode.{Mode}
use Rattle.spec_grammar.specs.declared.mode.Before.{Before}
use Rattle.spec_grammar.specs.declared.fault.SpecFault.{SpecFault}
use Rattle.spec_grammar.specs.declared.fault.SpecFault.TheVariants as fault

-- ---- how far

-- a text that begins as this one does up to place q, and with what stands there
abbrev pub Varies : List ℕ → ℕ → List ℕ → Type 0
Varies text q more = length text ≤ q → more ≡ []

abbrev pub varied : List ℕ → ℕ → List ℕ → List ℕ
varied text q more = take (q + 1) text ++ more

-- ---- a LIST

-- the first n bytes are the longest front that a LIST begins with, and a LIST of these items
pub record IsListAt (text : List ℕ) (items : List VersionItem) (n : ℕ) : Type 0 where
  pub reads : Reads (take n text) items
  pub longest : IsLongestFront IsList text n

abbrev pub IsListFault : List ℕ → SpecFault → Type 0
IsListFault text (fault.Expected q) = IsLongestFront IsList text q × (IsList (take q text) → ⊥)
IsListFault text (fault.BadVersion q) = (items : List VersionItem) × (n : ℕ) × IsListAt text items n × (first_empty 0 items ≡ Some q)
IsListFault text fault.OutOfMemory = Unit {0}
IsListFault text other = ⊥

-- ---- values

abbrev pub goes_on : List ℕ → Bool
goes_on [] = false
goes_on (b ∷ rest) = is_run_byte b

-- the values of a key, which a text begins with
pub record AreFirst (key : KeyKind) (text : List ℕ) (values : List (List ℕ)) (rest : List ℕ) : Type 0 where
  pub cut : text ≡ spell_values values ++ rest
  pub are : AreValues values
  pub takes : Takes key values
  pub over : goes_on rest ≡ false

-- the first n bytes are these values
pub record AreValuesAt (key : KeyKind) (text : List ℕ) (values : List (List ℕ)) (n : ℕ) : Type 0 where
  pub within : n ≤ length text
  pub first : AreFirst key text values (drop n text)

-- the text goes on as values of the key do up to place q, and no further
pub record AreStuck (key : KeyKind) (text : List ℕ) (q : ℕ) : Type 0 where
  pub within : q ≤ length text
  pub none : (more : List ℕ) → Varies text q more → (values : List (List ℕ)) (rest : List ℕ)
      → AreFirst key (varied text q more) values rest → ⊥
  pub tail : List ℕ
  pub values : List (List ℕ)
  pub are : AreValues values
  pub takes : Takes key values
  pub cut : take q text ++ tail ≡ spell_values values

abbrev pub IsValuesFault : KeyKind → List ℕ → SpecFault → Type 0
IsValuesFault key text (fault.Expected q) = AreStuck key text q
IsValuesFault key text fault.OutOfMemory = Unit {0}
IsValuesFault key text other = ⊥

-- ---- an item

-- the first n bytes are this item
pub record IsCutOff (text : List ℕ) (item : SpecItem) (n : ℕ) : Type 0 where
  pub within : n ≤ length text
  pub first : IsFirst text item (drop n text)
  pub ranges : empty_place item ≡ None

-- the text goes on as an item of its kind does up to place q, and no further
pub record IsStuck (text : List ℕ) (q : ℕ) : Type 0 where
  pub within : q ≤ length text
  pub none : (more : List ℕ) → Varies text q more → (item : SpecItem) (rest : List ℕ) → IsFirst (varied text q more) item rest → ⊥
  pub tail : List ℕ
  pub item : SpecItem
  pub form : IsSpecItem item
  pub kind : kind_at text ≡ Some (kind_of item)
  pub cut : take q text ++ tail ≡ spell_item item

abbrev pub IsItemFault : List ℕ → SpecFault → Type 0
IsItemFault text (fault.Expected q) = IsStuck text q
IsItemFault text (fault.BadVersion q) = (item : SpecItem) × (rest : List ℕ) × IsFirst text item rest × (empty_place item ≡ Some q)
IsItemFault text fault.OutOfMemory = Unit {0}
IsItemFault text other = ⊥

-- ---- an item that may stand there

pub record IsAllowedItem (mode : Mode) (place : Before) (gap : Bool) (text : List ℕ) (item : SpecItem) (n : ℕ) : Type 0 where
  pub cut : IsCutOff text item n
  pub stands : may_stand mode place gap (kind_of item) ≡ true

-- some item that may stand here goes on as the text does up to place q
pub record IsViable (mode : Mode) (place : Before) (gap : Bool) (text : List ℕ) (q : ℕ) : Type 0 where
  pub tail : List ℕ
  pub item : SpecItem
  pub form : IsSpecItem item
  pub stands : may_stand mode place gap (kind_of item) ≡ true
  pub cut : take q text ++ tail ≡ spell_item item

-- the text goes on as items that may stand here do up to place q, and no further
pub record IsStuckHere (mode : Mode) (place : Before) (gap : Bool) (text : List ℕ) (q : ℕ) : Type 0 where
  pub within : q ≤ length text
  pub none : (more : List ℕ) → Varies text q more → (item : SpecItem) (rest : List ℕ) → IsFirst (varied text q more) item rest
      → may_stand mode place gap (kind_of item) ≡ true → ⊥
  pub viable : (q ≡ 0) ⊎ IsViable mode place gap text q

-- where the text is not right, if no item of this kind may stand here: behind a NAME that could stand
-- here as an item of another kind, or else at once
abbrev pub refused_place : Mode → Before → Bool → Kind → ℕ → ℕ
refused_place mode place gap kind.Name n = if may_stand mode place gap kind.Key then n else 0
refused_place mode place gap kind.Key n = if may_stand mode place gap kind.Name then n else 0
refused_place mode place gap other n = 0

abbrev pub IsItemFaultHere : Mode → Before → Bool → List ℕ → SpecFault → Type 0
IsItemFaultHere mode place gap text (fault.Expected q) = IsStuckHere mode place gap text q
IsItemFaultHere mode place gap text (fault.BadVersion q) = (item : SpecItem) × (rest : List ℕ) × IsFirst text item rest
    × (may_stand mode place gap (kind_of item) ≡ true) × (empty_place item ≡ Some q)
IsItemFaultHere mode place gap text fault.OutOfMemory = Unit {0}
IsItemFaultHere mode place gap text other = ⊥

-- what is wrong with the item, or what form it begins that is not read
abbrev pub IsFaultHere : Mode → Before → Bool → List ℕ → SpecFault → Type 0
IsFaultHere mode place gap text (fault.Unsupported q form) = (q ≡ 0) × (form_at mode (may_name mode place gap) text ≡ Some form)
IsFaultHere mode place gap text (fault.Expected q) = (form_at mode (may_name mode place gap) text ≡ None)
    × IsItemFaultHere mode place gap text (fault.Expected q)
IsFaultHere mode place gap text (fault.BadVersion q) = (form_at mode (may_name mode place gap) text ≡ None)
    × IsItemFaultHere mode place gap text (fault.BadVersion q)
IsFaultHere mode place gap text (fault.TwiceSet q) = ⊥
IsFaultHere mode place gap text fault.OutOfMemory = Unit {0}

-- ---- places

-- a fault, its place counted from `by` bytes earlier
abbrev pub moved : ℕ → SpecFault → SpecFault
moved by (fault.Unsupported q form) = fault.Unsupported (by + q) form
moved by (fault.Expected q) = fault.Expected (by + q)
moved by (fault.BadVersion q) = fault.BadVersion (by + q)
moved by (fault.TwiceSet q) = fault.TwiceSet (by + q)
moved by fault.OutOfMemory = fault.OutOfMemory

abbrev pub Fits : ℕ → SpecFault → Type 0
Fits by (fault.Unsupported q form) = by + q < 2 ^ 64
Fits by (fault.Expected q) = by + q < 2 ^ 64
Fits by (fault.BadVersion q) = by + q < 2 ^ 64
Fits by (fault.TwiceSet q) = by + q < 2 ^ 64
Fits by fault.OutOfMemory = Unit {0}
