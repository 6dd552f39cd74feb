-- Texts of the right form, as items with the white space before each.
use Rattle.std.specs.Prelude.{◌≡◌, ℕ, ◌&&◌, not, Bool, true, false, List, [], ◌∷◌, ◌++◌, Option, Some, None}
use Rattle.spec_grammar.specs.Signs.{AreWhite}
use Rattle.spec_grammar.specs.Items.{spell_item, IsSpecItem, IsOver, kind_of}
use Rattle.spec_grammar.specs.declared.item.SpecItem.{SpecItem}
use Rattle.spec_grammar.specs.declared.item.SpecItem.TheVariants as item
use Rattle.spec_grammar.specs.declared.item.Mark.TheVariants.{Plus, Tilde, Minus}
use Rattle.spec_grammar.specs.declared.item.Kind.{Kind}
use Rattle.spec_grammar.specs.declared.item.Kind.TheVariants.{Name, Versions, Variant, Compiler, Key, Caret}
use Rattle.spec_grammar.specs.declared.mode.Mode.{Mode}
use Rattle.spec_grammar.specs.declared.mode.Mode.TheVariants.{Specs, Condition, LocalCondition, Dependency, Provision}
use Rattle.spec_grammar.specs.declared.mode.Before.{Before}
use Rattle.spec_grammar.specs.declared.mode.Before.TheVariants as before

-- ---- what each kind of text may have

-- it begins with a NAME
abbrev pub needs_name : Mode → Bool
needs_name Specs = true
needs_name Condition = false
needs_name LocalCondition = false
needs_name Dependency = true
needs_name Provision = true

-- it may have `^`
abbrev pub may_nest : Mode → Bool
may_nest Specs = true
may_nest Condition = true
may_nest LocalCondition = false
may_nest Dependency = false
may_nest Provision = false

-- it may have more than one spec
abbrev pub may_repeat : Mode → Bool
may_repeat Specs = true
may_repeat Condition = false
may_repeat LocalCondition = false
may_repeat Dependency = false
may_repeat Provision = false

-- it may have constraints other than `@`
abbrev pub may_have_all : Mode → Bool
may_have_all Specs = true
may_have_all Condition = true
may_have_all LocalCondition = true
may_have_all Dependency = true
may_have_all Provision = false

-- ---- where an item may stand

-- a NAME that begins a part; `gap` says whether white space stands before it
abbrev pub may_name : Mode → Before → Bool → Bool
may_name mode before.Start gap = true
may_name mode before.Caret gap = true
may_name mode before.Inside gap = may_repeat mode && gap

-- `@LIST`
abbrev pub may_constrain : Mode → Before → Bool
may_constrain mode before.Start = not (needs_name mode)
may_constrain mode before.Caret = false
may_constrain mode before.Inside = true

-- `-NAME` and `NAME=` follow white space or stand at the text's start
abbrev pub is_apart : Before → Bool → Bool
is_apart before.Start gap = true
is_apart before.Caret gap = true
is_apart before.Inside gap = gap

abbrev pub may_stand : Mode → Before → Bool → Kind → Bool
may_stand mode place gap Name = may_name mode place gap
may_stand mode place gap Versions = may_constrain mode place
may_stand mode place gap (Variant Plus) = may_constrain mode place && may_have_all mode
may_stand mode place gap (Variant Tilde) = may_constrain mode place && may_have_all mode
may_stand mode place gap (Variant Minus) = may_constrain mode place && may_have_all mode && is_apart place gap
may_stand mode place gap Compiler = may_constrain mode place && may_have_all mode
may_stand mode place gap Key = may_constrain mode place && may_have_all mode && is_apart place gap
may_stand mode place gap Caret = may_constrain mode place && may_nest mode

-- a text may end here
abbrev pub may_end : Mode → Before → Bool
may_end mode before.Start = not (needs_name mode)
may_end mode before.Caret = false
may_end mode before.Inside = true

-- ---- texts

-- an item and the white space before it
pub record ItemStep : Type 0 where
  pub gap : List ℕ
  pub item : SpecItem

abbrev pub spell_step : ItemStep → List ℕ
spell_step s = s.gap ++ spell_item s.item

abbrev pub spell_steps : List ItemStep → List ℕ
spell_steps [] = []
spell_steps (s ∷ steps) = spell_step s ++ spell_steps steps

abbrev pub before_item : SpecItem → Before
before_item item.Caret = before.Caret
before_item other = before.Inside

-- what stands before an item, by the item before it
abbrev pub before_of : Option SpecItem → Before
before_of None = before.Start
before_of (Some last) = before_item last

abbrev pub IsOverLast : Option SpecItem → List ℕ → Type 0
IsOverLast None text = Unit {0}
IsOverLast (Some last) text = IsOver last text

abbrev pub is_some_gap : List ℕ → Bool
is_some_gap [] = false
is_some_gap (b ∷ gap) = true

-- a step may stand behind this item
pub record IsRightStep (mode : Mode) (last : Option SpecItem) (s : ItemStep) : Type 0 where
  pub white : AreWhite s.gap
  pub form : IsSpecItem s.item
  pub stands : may_stand mode (before_of last) (is_some_gap s.gap) (kind_of s.item) ≡ true
  pub over : IsOverLast last (spell_step s)

abbrev pub AreRight : Mode → Option SpecItem → List ItemStep → Type 0
AreRight mode last [] = Unit {0}
AreRight mode last (s ∷ steps) = IsRightStep mode last s × AreRight mode (Some s.item) steps

-- the last item of some, where this one stands before them
abbrev pub last_of : Option SpecItem → List ItemStep → Option SpecItem
last_of last [] = last
last_of last (s ∷ steps) = last_of (Some s.item) steps

-- the text is these steps, and white space behind them
pub record IsCut (mode : Mode) (text : List ℕ) (steps : List ItemStep) (trail : List ℕ) : Type 0 where
  pub right : AreRight mode None steps
  pub white : AreWhite trail
  pub spelled : text ≡ spell_steps steps ++ trail

abbrev pub HasForm : Mode → List ℕ → Type 0
HasForm mode text = (steps : List ItemStep) × (trail : List ℕ) × IsCut mode text steps trail
    × (may_end mode (before_of (last_of None steps)) ≡ true)
