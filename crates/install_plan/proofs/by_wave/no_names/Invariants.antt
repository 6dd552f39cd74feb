use Rattle.std.proofs.Common.{◌≡◌, [], replicate}
use Rattle.install_plan.proofs.by_wave.no_names.Given as goal

abbrev pub invariant-loop : goal.invariant-loop
invariant-loop l = l.waves.items ≡ replicate l.counter []
