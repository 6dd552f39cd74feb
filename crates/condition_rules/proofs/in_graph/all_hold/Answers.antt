use Rattle.condition_rules.specs.Holds.{all_hold}
use Rattle.condition_rules.proofs.in_graph.all_hold.Goals as goal

pub returns : goal.returns
unfolding all_hold
returns g c = rw c.as_slice.ensures at c.each_holds.ensures
