use Rattle.std.proofs.Common.{◌≡◌, ◌++◌, drop}
use Rattle.virtuals.specs.Pairs.{row_pairs}
use Rattle.virtuals.proofs.providers.add_rows.Given as goal

abbrev pub invariant-loop-row : goal.invariant-loop-row
invariant-loop-row l = l.pairs.items ++ row_pairs l.provider (drop l.row-index l.rows) ≡ l.fn.pairs.items ++ row_pairs l.provider l.rows
