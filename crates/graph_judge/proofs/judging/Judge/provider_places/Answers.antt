use Rattle.std.proofs.Common.{◌∙◌}
use Rattle.graph_core.specs.Graphs.{Text}
use Rattle.graph_rules.specs.Verdict.{Place}
use Rattle.graph_judge.specs.Places.{provider_test}
use Rattle.graph_judge.proofs.Lists.{flat_unless}
use Rattle.graph_judge.proofs.judging.Judge.provider_places.Goals as goal

pub returns : goal.returns
returns c = rw (c.new-places.ensures.items, c.providers.ensures) at c.in_ok-add_providers.ensures
    ∙ flat_unless (provider_test c.args.rule c.args.self.now.problem c.args.self.now.graph) (λ (p : Text × Text). let q : Place = (p.0, 0) in
    q) c.args.self.now.graph.providers
