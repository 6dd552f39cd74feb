use Rattle.table_plan.specs.Numbers.{table_from}
use Rattle.table_plan.proofs.TableOrder.{table_right}
use Rattle.table_plan.proofs.numbering.table_from.Goals as goal

pub new-requires : goal.new-requires
unfolding table_from
new-requires c = rw (
  c.in_ok-providers.ensures.providers,
  c.in_ok-edges.ensures.edges,
  c.in_ok-blocks.ensures.blocks,
  c.in_ok-edges.ensures.next,
  c.in_ok-blocks.ensures.next,
  c.as_slice.ensures,
  c.as_slice-2.ensures,
  c.as_slice-3.ensures,
) (table_right c.args.next.now c.args.plan.now c.requires)
