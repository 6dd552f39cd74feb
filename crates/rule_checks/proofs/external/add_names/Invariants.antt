use Rattle.std.proofs.Common.{◌≡◌, ◌++◌, map, drop}
use Rattle.rule_checks.proofs.external.add_names.Given as goal

abbrev pub invariant-loop-row : goal.invariant-loop-row
invariant-loop-row l = l.names.items ++ map (λ row. row.name) (drop l.row-index l.rows) ≡ l.fn.names.items ++ map (λ row. row.name) l.rows
