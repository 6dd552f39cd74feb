use Rattle.std.proofs.Common.{◌≡◌, ◌+◌, drop}
use Rattle.log_checker.specs.Blocks.{first_bad}
use Rattle.log_checker.proofs.block.first_bad.Given as goal

abbrev pub invariant-loop-i : goal.invariant-loop-i
invariant-loop-i g l = first_bad l.ground.bits.now l.ground.known.now (l.number + l.i)
    (drop l.i l.lines) ≡ first_bad l.ground.bits.now l.ground.known.now l.number l.lines
