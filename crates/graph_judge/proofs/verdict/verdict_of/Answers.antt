use Rattle.graph_rules.specs.Verdict.{verdict_of}
use Rattle.graph_judge.proofs.verdict.verdict_of.Goals as goal

pub returns : goal.returns
unfolding verdict_of
returns c = rw (c.new-judge.ensures, c.in_ok-explored.ensures) at c.first_broken.ensures
