use Rattle.std.proofs.Common.{◌≡◌, ◌++◌, drop}
use Rattle.run_output.specs.LeastTexts.{least_text}
use Rattle.run_output.proofs.least_text.least_text.Given as goal

abbrev pub invariant-loop-place : goal.invariant-loop-place
invariant-loop-place l =
    l.text.items ++ least_text l.problem (drop l.place l.demands) (drop l.place l.graphs) ≡ least_text l.problem l.demands l.graphs
