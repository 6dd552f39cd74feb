use Rattle.std.proofs.Common.{◌≡◌, drop}
use Rattle.log_trim.specs.Trimmed.{has_spent}
use Rattle.log_trim.proofs.lines.has_spent.Given as goal

abbrev pub invariant-loop-line : goal.invariant-loop-line
invariant-loop-line l = has_spent (drop l.line-index l.lines) ≡ has_spent l.lines
