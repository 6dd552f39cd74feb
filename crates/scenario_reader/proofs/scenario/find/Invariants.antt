use Rattle.std.proofs.Common.{◌≡◌, drop}
use Rattle.scenario_reader.specs.Scenarios.{find}
use Rattle.scenario_reader.proofs.scenario.find.Given as goal

abbrev pub invariant-loop-entry : goal.invariant-loop-entry
invariant-loop-entry l = find l.kind (drop l.entry-index l.entries) ≡ find l.kind l.entries
