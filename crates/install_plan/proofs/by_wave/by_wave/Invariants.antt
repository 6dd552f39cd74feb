use Rattle.std.proofs.Common.{take}
use Rattle.install_plan.specs.Children.{built_of, wave_in}
use Rattle.install_plan.proofs.WaveLaws.{AreSorted}
use Rattle.install_plan.proofs.by_wave.by_wave.Given as goal

abbrev pub invariant-loop-place : goal.invariant-loop-place
invariant-loop-place l = AreSorted (wave_in l.graph l.numbers) l.waves.items l.count (built_of (take l.place l.nodes))
