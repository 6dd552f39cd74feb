use Rattle.std.proofs.Common.{◌≡◌, length}
use Rattle.clause_solver.specs.Seen.{AreListed}
use Rattle.clause_solver.proofs.seen.Seen.clear.Given as goal

abbrev pub invariant-loop-var : goal.invariant-loop-var
invariant-loop-var l = record {
  listed : AreListed l.self-inside.table.items l.self-inside.listed.items;
  same : length l.self-inside.table.items ≡ length l.fn.self;
}

abbrev pub decreases-loop-var : goal.decreases-loop-var
decreases-loop-var l = length l.self-inside.listed.items
