-- What a text spells, and what stands at a place of it.
use Rattle.std.specs.Prelude.{◌≡◌, ℕ, ◌+◌, Bool, true, false, List, [], ◌∷◌, ◌++◌, length, take, drop, Option, Some, None, option_and_then}
use Rattle.std.specs.List.{AllByRecursion}
use Rattle.version_order.specs.Items.{first_empty}
use Rattle.spec_grammar.specs.Items.{spell_item, IsSpecItem, IsOver, kind_of}
use Rattle.spec_grammar.specs.Signs.{is_white}
use Rattle.spec_grammar.specs.Right.{ItemStep, before_of, last_of, IsCut, IsOverLast, is_some_gap, needs_name, may_name, may_stand}
use Rattle.spec_grammar.specs.Forms.{form_at}
use Rattle.spec_grammar.specs.declared.fault.Form.{Form}
use Rattle.spec_grammar.specs.Meaning.{empty_part, take_item, finished_specs}
use Rattle.spec_grammar.specs.declared.item.SpecItem.{SpecItem}
use Rattle.spec_grammar.specs.declared.item.SpecItem.TheVariants.{Versions, Compiler}
use Rattle.spec_grammar.specs.declared.mode.Mode.{Mode}
use Rattle.spec_grammar.specs.declared.mode.Before.{Before}
use Rattle.spec_grammar.specs.declared.part.Part.{Part}
use Rattle.spec_grammar.specs.declared.part.Spec.{Spec}
use Rattle.spec_grammar.specs.declared.draft.Draft.{Draft}

-- the place of the first empty range of an item, from the item's first byte
abbrev pub empty_place : SpecItem → Option ℕ
empty_place (Versions items) = first_empty 1 items
empty_place (Compiler w (Some items)) = first_empty (length w + 2) items
empty_place other = None

-- no range of the step's item is empty
abbrev pub HasNoEmpty : ItemStep → Type 0
HasNoEmpty s = empty_place s.item ≡ None

unfoldable pub take_steps : Draft → List ItemStep → Option Draft
take_steps draft [] = Some draft
take_steps draft (s ∷ steps) = option_and_then (λ next. take_steps next steps) (take_item s.item draft)

-- only a condition may begin with constraints, of a package that it does not name
abbrev pub initial_part : Bool → Option Part
initial_part true = None
initial_part false = Some (empty_part None)

abbrev pub first_draft : Mode → Draft
first_draft mode = record { specs = []; top = None; below = []; part = initial_part (needs_name mode) }

-- what was read of a text: its steps, the white space behind them, and what they stand for
pub record SpecReading : Type 0 where
  pub steps : List ItemStep
  pub trail : List ℕ
  pub draft : Draft

abbrev pub last_item : SpecReading → Option SpecItem
last_item read = last_of None read.steps

abbrev pub place_of_reading : SpecReading → Before
place_of_reading read = before_of (last_item read)

abbrev pub has_gap : SpecReading → Bool
has_gap read = is_some_gap read.trail

-- the whole text was read so
pub record IsSpecReading (mode : Mode) (text : List ℕ) (read : SpecReading) : Type 0 where
  pub cut : IsCut mode text read.steps read.trail
  pub ranges : AllByRecursion HasNoEmpty read.steps
  pub value : take_steps (first_draft mode) read.steps ≡ Some read.draft

-- the text spells these specs
pub record Spells (mode : Mode) (text : List ℕ) (specs : List Spec) : Type 0 where
  pub read : SpecReading
  pub is : IsSpecReading mode text read
  pub part : Part
  pub last : read.draft.part ≡ Some part
  pub are : specs ≡ finished_specs read.draft part

-- the item that a text begins with
pub record IsFirst (text : List ℕ) (item : SpecItem) (rest : List ℕ) : Type 0 where
  pub cut : text ≡ spell_item item ++ rest
  pub form : IsSpecItem item
  pub over : IsOver item rest

-- ---- the item at a place

-- the byte that the text begins with is no white space
abbrev pub IsDark : List ℕ → Type 0
IsDark [] = ⊥
IsDark (b ∷ rest) = is_white b ≡ false

-- what is before place p was read so, and an item stands at p, or should
pub record IsItemAt (mode : Mode) (text : List ℕ) (p : ℕ) (read : SpecReading) : Type 0 where
  pub before : IsSpecReading mode (take p text) read
  pub dark : IsDark (drop p text)
  pub over : IsOverLast (last_item read) (read.trail ++ drop p text)

-- the item may stand behind what was read
abbrev pub MayFollow : Mode → SpecReading → SpecItem → Type 0
MayFollow mode read item = may_stand mode (place_of_reading read) (has_gap read) (kind_of item) ≡ true

-- the form that stands there
abbrev pub form_there : Mode → SpecReading → List ℕ → Option Form
form_there mode read text = form_at mode (may_name mode (place_of_reading read) (has_gap read)) text
