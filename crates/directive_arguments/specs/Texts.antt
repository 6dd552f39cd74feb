-- What the texts in arguments are read as.
use Rattle.std.specs.Prelude.{◌≢◌, ◌⊎◌, ℕ, Bool, true, false, List, [], ◌∷◌, Result, Ok, Err, if◌then◌else◌}
use Rattle.std.proofs.Common.{inl, inr}
use Rattle.version_order.specs.Signs.{is_version}
use Rattle.spec_grammar.specs.Reading.{Spells}
use Rattle.spec_grammar.specs.Faults.{IsFault}
use Rattle.spec_grammar.proofs.TotalText.{reading_total}
use Rattle.spec_grammar.specs.declared.mode.Mode.{Mode}
use Rattle.spec_grammar.specs.declared.mode.Mode.TheVariants.{Condition, LocalCondition}
use Rattle.spec_grammar.specs.declared.part.Part.{Part}
use Rattle.spec_grammar.specs.declared.part.Spec.{Spec}
use Rattle.spec_grammar.specs.declared.fault.SpecFault.{SpecFault}
use Rattle.spec_grammar.specs.declared.fault.SpecFault.TheVariants as spec
use Rattle.directive_arguments.specs.declared.fault.ArgumentFault.TheVariants as fault
use Rattle.directive_arguments.specs.Results.{ArgumentStep}

-- ---- answers of the grammar

-- a text spells these specs, or it has this fault other than want of memory
abbrev pub IsAnswer : Mode → List ℕ → Result (List Spec) SpecFault → Type 0
IsAnswer mode text (Ok specs) = Spells mode text specs
IsAnswer mode text (Err spec.OutOfMemory) = ⊥
IsAnswer mode text (Err e) = IsFault mode text e

-- each text has an answer, and one alone: this one. It is taken from the proof that there is one, so nothing is
-- known of it but that it is an answer.
abbrev pub IsSaid : Mode → List ℕ → Type 0
IsSaid mode text = ((specs : List Spec) × Spells mode text specs) ⊎ ((e : SpecFault) × IsFault mode text e × (e ≢ spec.OutOfMemory))

abbrev pub said : (mode : Mode) (text : List ℕ) → IsSaid mode text → Result (List Spec) SpecFault
said mode text (inl w) = Ok w.0
said mode text (inr w) = Err w.0

unfoldable pub answer : Mode → List ℕ → Result (List Spec) SpecFault
answer mode text = said mode text (reading_total mode text)

-- a text of a kind that spells one spec; the kinds used here spell no other number of them
abbrev pub one_by : Result (List Spec) SpecFault → Result Spec SpecFault
one_by (Ok (s ∷ [])) = Ok s
one_by (Ok specs) = Err (spec.Expected 0)
one_by (Err e) = Err e

-- ---- texts whose first string is at `place`

abbrev pub in_text : {A : Type 0} → ℕ → Result A SpecFault → ArgumentStep A
in_text place (Ok a) = Ok a
in_text place (Err e) = Err (fault.Spec place e)

abbrev pub spec_of : Mode → ℕ → List ℕ → ArgumentStep Spec
spec_of mode place text = in_text place (one_by (answer mode text))

abbrev pub top_of : ArgumentStep Spec → ArgumentStep Part
top_of (Ok s) = Ok s.top
top_of (Err e) = Err e

abbrev pub part_of : Mode → ℕ → List ℕ → ArgumentStep Part
part_of mode place text = top_of (spec_of mode place text)

-- conditions of `provides` are local: they have no `^`
abbrev pub condition_mode : Bool → Mode
condition_mode true = LocalCondition
condition_mode false = Condition

-- a condition; a local one has no `^`
abbrev pub condition : Bool → ℕ → List ℕ → ArgumentStep Spec
condition local place text = spec_of (condition_mode local) place text

-- a version
abbrev pub version_of : ℕ → List ℕ → ArgumentStep (List ℕ)
version_of place text = if is_version text then Ok text else Err (fault.Spec place (spec.BadVersion 0))
