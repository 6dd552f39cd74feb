use Rattle.cost_vector.proofs.Halves.{listed}
use Rattle.cost_vector.proofs.sums.numbers_of.Goals as goal

pub returns : goal.returns
returns c =
    listed c.args.problem.now c.args.graph.now _ _ _ _ c.in_ok-first.ensures c.in_ok-builds.ensures c.in_ok-last.ensures c.joined.ensures
