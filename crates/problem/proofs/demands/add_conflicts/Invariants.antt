use Rattle.std.proofs.Common.{◌≡◌, ◌++◌, map, drop}
use Rattle.problem.proofs.demands.add_conflicts.Given as goal

abbrev pub invariant-loop-row : goal.invariant-loop-row
invariant-loop-row l = l.numbers.items ++ map (λ row. row.number) (drop l.row-index l.rows) ≡ l.fn.numbers.items
    ++ map (λ row. row.number) l.rows
