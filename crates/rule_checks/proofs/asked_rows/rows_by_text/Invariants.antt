use Rattle.std.proofs.Common.{◌≡◌, take, map}
use Rattle.keyed_lists.specs.Lent.{lent}
use Rattle.keyed_lists.proofs.Lent.{pair_of}
use Rattle.rule_checks.specs.Asked.{asked_text}
use Rattle.rule_checks.proofs.asked_rows.rows_by_text.Given as goal

abbrev pub invariant-loop-row : goal.invariant-loop-row
invariant-loop-row l = lent l.entries.items ≡ map (pair_of asked_text) (take l.row-index l.rows)
