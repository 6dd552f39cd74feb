use Rattle.std.proofs.Common.{ap, ◌∙◌}
use Rattle.std.specs.Borrow.{Bor}
use Rattle.std.specs.Option.{option_copied}
use Rattle.virtuals.specs.OfConditions.VariantRow.{VariantRow}
use Rattle.condition_rules.specs.Holds.{all_hold}
use Rattle.condition_rules.proofs.Last.{find_last-pass, find_last-skip}
use Rattle.condition_rules.proofs.in_graph.last_holding.Goals as goal
use Rattle.condition_rules.proofs.in_graph.last_holding.Goals.{then-branch, else-branch}

pub loop-row-preserved : goal.loop-row-preserved
loop-row-preserved g c =
    let holds = λ (row : VariantRow). all_hold c.args.world.now row.when (g.P.Paths.graph_of c.args.graph.now) c.args.name.now in
    let own = λ (row : Bor VariantRow). row.now in
    elim c.if-branch.branch [
      | then-branch w ↦ ap option_copied w.last-is
          ∙ find_last-pass holds own _ _ c.row-item.result c.in_ok-all_hold.field-0 c.loop-row-test.true c.row-item.is
          c.in_ok-all_hold.ensures w.if-branch.true
      | else-branch w ↦ ap option_copied w.last-is
          ∙ find_last-skip holds own _ _ c.row-item.result c.in_ok-all_hold.field-0 _ c.loop-row-test.true c.row-item.is
          c.in_ok-all_hold.ensures w.if-branch.false c.loop-row.invariant
    ]
