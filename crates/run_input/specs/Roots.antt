-- The roots that the text of the specs asks for, or the condition that it is, or the first refusal.
use Rattle.std.specs.Prelude.{◌≡◌, ◌≢◌, ℕ, List, [], ◌∷◌, length, nat_le, ◌^◌, Bool, is_some, Result, Ok, Err}
use Rattle.std.specs.List.{list_all}
use Rattle.spec_grammar.specs.Reading.{Spells}
use Rattle.spec_grammar.specs.Faults.{IsFault}
use Rattle.spec_grammar.specs.declared.mode.Mode.TheVariants.{Specs, Condition}
use Rattle.spec_grammar.specs.declared.part.Spec.{Spec}
use Rattle.spec_grammar.specs.declared.fault.SpecFault.{SpecFault}
use Rattle.spec_grammar.specs.declared.fault.SpecFault.TheVariants as fault
use Rattle.run_answers.specs.Stages.{Is, Then, ◌>>=◌, check}
use Rattle.run_answers.specs.declared.refusal.Refusal.{Refusal}
use Rattle.run_answers.specs.declared.refusal.Refusal.TheVariants as refusals

-- the specs that a text spells, or its fault
abbrev pub SpecsOf : List ℕ → Result (List Spec) Refusal → Type 0
SpecsOf text (Ok specs) = Spells Specs text specs
SpecsOf text (Err refusal) = (e : SpecFault) × IsFault Specs text e × (e ≢ fault.OutOfMemory) × (refusal ≡ refusals.BadSpecs e)

-- each spec has a name
abbrev pub are_named : List Spec → Bool
are_named specs = list_all (λ spec. is_some spec.top.name) specs

-- at most 64 specs
unfoldable pub roots_of : List Spec → Result (List Spec) Refusal
roots_of specs = do
  few ← check refusals.TooManyRoots (nat_le (length specs) 64)
  Ok specs

-- a text of specs has at most 64 KiB
abbrev pub short : List ℕ → Result (Unit {0}) Refusal
short text = check refusals.SpecsTooLarge (nat_le (length text) (2 ^ 16))

-- the roots that the text of the specs asks for
abbrev pub RootsOf : List ℕ → Result (List Spec) Refusal → Type 0
RootsOf text = Then (Is (short text)) (λ done. Then (SpecsOf text) (λ specs. Is (roots_of specs)))

-- the condition that a text spells, or its fault
abbrev pub ConditionIn : List ℕ → Result Spec Refusal → Type 0
ConditionIn text (Ok spec) = Spells Condition text (spec ∷ [])
ConditionIn text (Err refusal) = (e : SpecFault) × IsFault Condition text e × (e ≢ fault.OutOfMemory) × (refusal ≡ refusals.BadSpecs e)

-- the text as a condition, which has as many bytes at most
abbrev pub ConditionOf : List ℕ → Result Spec Refusal → Type 0
ConditionOf text = Then (Is (short text)) (λ done. ConditionIn text)
