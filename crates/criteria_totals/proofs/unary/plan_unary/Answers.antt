use Rattle.criteria_totals.proofs.UnaryLoops.{unary-built}
use Rattle.criteria_totals.proofs.unary.plan_unary.Goals as goal

pub returns : goal.returns
returns c = unary-built _ _ _ _ _ c.in_ok-bits.ensures c.reverse.ensures.items
