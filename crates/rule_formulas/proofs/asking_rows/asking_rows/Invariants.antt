use Rattle.std.proofs.Common.{◌≡◌, map, take}
use Rattle.rule_formulas.specs.Asking.{asking_row}
use Rattle.rule_formulas.proofs.asking_rows.asking_rows.Given as goal

abbrev pub invariant-loop-row : goal.invariant-loop-row
invariant-loop-row l = l.rows.items ≡ map (asking_row l.problem l.table) (take l.row-index l.row-items)
