use Rattle.install_plan.proofs.ChainLaws.{edge_tells}
use Rattle.install_plan.proofs.chain.may_come_below.Goals as goal

pub returns-in-Some : goal.returns-in-Some
returns-in-Some c = rw c.in-Some.is (rw (← c.as_str.ensures)
    (edge_tells c.args.graph.now c.as_str.result.now c.args.name.now c.edge.result c.is_some.result c.edge.ensures c.is_some.ensures))
