-- What a reading answers where the definition gives a value or a fault.
use Rattle.std.specs.Prelude.{◌≡◌, Result, Ok, Err}
use Rattle.scenario_reader.specs.declared.fault.Fault.{Fault}
use Rattle.scenario_reader.specs.declared.fault.ScenarioError.{ScenarioError}
use Rattle.scenario_reader.specs.declared.fault.ScenarioError.TheVariants as errors

-- the answer is the one that is wanted, or want of memory
abbrev pub Answers : {A : Type 0} → Result A Fault → Result A ScenarioError → Type 0
Answers wanted (Ok a) = wanted ≡ Ok a
Answers wanted (Err (errors.Fault f)) = wanted ≡ Err f
Answers wanted (Err errors.OutOfMemory) = Unit {0}

-- a change in place is the one that is wanted, or it failed so
abbrev pub Becomes : {A B : Type 0} → Result A Fault → A → Result B ScenarioError → Type 0
Becomes wanted new (Ok _) = wanted ≡ Ok new
Becomes wanted new (Err (errors.Fault f)) = wanted ≡ Err f
Becomes wanted new (Err errors.OutOfMemory) = Unit {0}

abbrev pub and_then : {A B : Type 0} → (A → Result B Fault) → Result A Fault → Result B Fault
and_then f (Ok a) = f a
and_then f (Err e) = Err e
