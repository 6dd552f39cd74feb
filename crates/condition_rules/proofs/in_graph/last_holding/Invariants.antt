use Rattle.std.proofs.Common.{◌≡◌, take, map}
use Rattle.std.specs.Borrow.{Bor}
use Rattle.std.specs.Option.{option_copied}
use Rattle.virtuals.specs.OfConditions.VariantRow.{VariantRow}
use Rattle.condition_rules.specs.Words.{find_last}
use Rattle.condition_rules.specs.Holds.{all_hold}
use Rattle.condition_rules.proofs.in_graph.last_holding.Given as goal

abbrev pub invariant-loop-row : goal.invariant-loop-row
invariant-loop-row g l = option_copied l.last ≡ find_last (λ row. all_hold l.world row.when (g.P.Paths.graph_of l.graph) l.name)
    (map (λ (row : Bor VariantRow). row.now) (take l.row-index l.rows))
