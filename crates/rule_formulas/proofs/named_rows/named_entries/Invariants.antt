use Rattle.std.proofs.Common.{◌≡◌, ◌++◌, drop}
use Rattle.keyed_lists.specs.Lent.{lent}
use Rattle.rule_formulas.specs.Named.{named_entries}
use Rattle.rule_formulas.proofs.named_rows.named_entries.Given as goal

abbrev pub invariant-loop-row : goal.invariant-loop-row
invariant-loop-row l = lent l.entries.items ++ named_entries (drop l.row-index l.rows) ≡ named_entries l.rows
