use Rattle.std.proofs.Common.{◌≡◌, ◌++◌, ◌+◌, drop}
use Rattle.run_output.specs.Report.{waves_text}
use Rattle.run_output.proofs.order.write_waves.Given as goal

-- what was written, and what is still to be written
abbrev pub invariant-loop-place : goal.invariant-loop-place
invariant-loop-place l =
    l.out.items ++ waves_text (l.place + 1) (drop l.place l.waves) ≡ l.fn.out.items ++ waves_text 1 l.waves
