use Rattle.std.proofs.Common.{◌≡◌, ◌+◌, ◌^◌, drop}
use Rattle.clause_circuits.specs.Trees.{total}
use Rattle.clause_rows.proofs.input.are_small.Given as goal

abbrev pub invariant-loop-term : goal.invariant-loop-term
invariant-loop-term l = l.left + total l.terms + 1 ≡ 2 ^ 63 + total (drop l.term-index l.terms)
