use Rattle.std.proofs.Common.{take}
use Rattle.install_plan.specs.Children.{built_of, wave_in, IsGreatest}
use Rattle.install_plan.proofs.by_wave.greatest_built.Given as goal

abbrev pub invariant-loop-place : goal.invariant-loop-place
invariant-loop-place l = IsGreatest (wave_in l.graph l.numbers) (built_of (take l.place l.nodes)) l.greatest
