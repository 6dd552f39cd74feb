use Rattle.std.proofs.Common.{◌≡◌, ◌++◌, drop}
use Rattle.scenario_reader.specs.Scenarios.{files_of}
use Rattle.scenario_reader.proofs.scenario.files_of.Given as goal

abbrev pub invariant-loop-entry : goal.invariant-loop-entry
invariant-loop-entry l = l.files ++ files_of l.kind (drop l.entry-index l.entries) ≡ files_of l.kind l.entries
