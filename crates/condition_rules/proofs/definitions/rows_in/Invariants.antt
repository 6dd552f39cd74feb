use Rattle.std.proofs.Common.{◌≡◌, ◌++◌, map, drop}
use Rattle.std.specs.Borrow.{Bor}
use Rattle.virtuals.specs.OfConditions.VariantRow.{VariantRow}
use Rattle.keyed_lists.specs.Lent.{lent}
use Rattle.condition_rules.proofs.definitions.rows_in.Given as goal

abbrev pub invariant-loop-entry : goal.invariant-loop-entry
invariant-loop-entry l =
    map (λ (row : Bor VariantRow). row.now) l.rows.items ++ map (λ e. e.1) (lent (drop l.entry-index l.fn.entries))
    ≡ map (λ e. e.1) (lent l.fn.entries)
