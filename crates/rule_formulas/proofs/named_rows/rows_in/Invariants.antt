use Rattle.std.proofs.Common.{◌≡◌, ◌++◌, map, drop}
use Rattle.std.specs.Borrow.{Bor}
use Rattle.keyed_lists.specs.Lent.{lent}
use Rattle.recipe_data.specs.declared.recipe.DependRow.{DependRow}
use Rattle.rule_formulas.proofs.named_rows.rows_in.Given as goal

abbrev pub invariant-loop-entry : goal.invariant-loop-entry
invariant-loop-entry l =
    map (λ (row : Bor DependRow). row.now) l.rows.items ++ map (λ e. e.1) (lent (drop l.entry-index l.fn.entries))
    ≡ map (λ e. e.1) (lent l.fn.entries)
