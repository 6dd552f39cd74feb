use Rattle.std.proofs.Common.{◌≡◌, ◌++◌, drop}
use Rattle.problem.specs.Demands.{settings_of}
use Rattle.problem.proofs.demands.add_all_settings.Given as goal

abbrev pub invariant-loop-entry : goal.invariant-loop-entry
invariant-loop-entry l = l.list ++ settings_of (drop l.entry-index l.packages) ≡ l.fn.list ++ settings_of l.packages
