-- When each fault is given: at the first item that is not right.
use Rattle.std.specs.Prelude.{◌≡◌, ℕ, ◌+◌, List, drop, Some, None, ◌⊎◌}
use Rattle.version_order.specs.Fronts.{IsBadAt}
use Rattle.spec_grammar.specs.Right.{HasForm}
use Rattle.spec_grammar.specs.Meaning.{take_item}
use Rattle.spec_grammar.specs.Reading.{SpecReading, IsSpecReading, IsFirst, IsItemAt, MayFollow, form_there, empty_place}
use Rattle.spec_grammar.specs.declared.item.SpecItem.{SpecItem}
use Rattle.spec_grammar.specs.declared.mode.Mode.{Mode}
use Rattle.spec_grammar.specs.declared.fault.SpecFault.{SpecFault}
use Rattle.spec_grammar.specs.declared.fault.SpecFault.TheVariants as fault

-- what is wrong at place p, where an item stands or should
abbrev pub IsWrong : Mode → List ℕ → ℕ → SpecReading → SpecFault → Type 0
IsWrong mode text p read (fault.Unsupported q form) = (q ≡ p) × (form_there mode read (drop p text) ≡ Some form)
IsWrong mode text p read (fault.Expected q) = (form_there mode read (drop p text) ≡ None)
    × ((item : SpecItem) (rest : List ℕ) → IsFirst (drop p text) item rest → MayFollow mode read item → ⊥)
IsWrong mode text p read (fault.BadVersion q) =
    (form_there mode read (drop p text) ≡ None)
    × ((item : SpecItem) × (rest : List ℕ) × (place : ℕ) × IsFirst (drop p text) item rest × MayFollow mode read item
    × (empty_place item ≡ Some place) × (q ≡ p + place))
IsWrong mode text p read (fault.TwiceSet q) =
    (form_there mode read (drop p text) ≡ None) × (q ≡ p)
    × ((item : SpecItem) × (rest : List ℕ) × IsFirst (drop p text) item rest × MayFollow mode read item × (empty_place item ≡ None)
    × (take_item item read.draft ≡ None))
IsWrong mode text p read fault.OutOfMemory = ⊥

-- the first item that is not right has this fault
abbrev pub IsAtItem : Mode → List ℕ → SpecFault → Type 0
IsAtItem mode text e = (p : ℕ) × (read : SpecReading) × IsItemAt mode text p read × IsWrong mode text p read e

-- the text ends where a NAME is needed
abbrev pub EndsEarly : Mode → List ℕ → Type 0
EndsEarly mode text = (read : SpecReading) × IsSpecReading mode text read × (read.draft.part ≡ None)

abbrev pub IsFault : Mode → List ℕ → SpecFault → Type 0
IsFault mode text fault.OutOfMemory = Unit {0}
IsFault mode text (fault.Expected q) = IsBadAt (HasForm mode) text q × (IsAtItem mode text (fault.Expected q) ⊎ EndsEarly mode text)
IsFault mode text (fault.Unsupported q form) = IsAtItem mode text (fault.Unsupported q form)
IsFault mode text (fault.BadVersion q) = IsAtItem mode text (fault.BadVersion q)
IsFault mode text (fault.TwiceSet q) = IsAtItem mode text (fault.TwiceSet q)
