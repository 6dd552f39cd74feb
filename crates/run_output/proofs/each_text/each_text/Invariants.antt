use Rattle.std.proofs.Common.{◌≡◌, take}
use Rattle.run_output.specs.Each.{lines_from}
use Rattle.run_output.proofs.each_text.each_text.Given as goal

abbrev pub invariant-loop-place : goal.invariant-loop-place
invariant-loop-place l = l.text.items ≡ lines_from l.whole 0 (take l.place l.problems) (take l.place l.answers)
