use Rattle.graph_core.specs.Graphs.{Text}
use Rattle.graph_judge.specs.Places.{unless, provider_test}
use Rattle.problem.proofs.NumberLaws.{flat_step}
use Rattle.graph_judge.proofs.judging.Judge.add_providers.Goals as goal

pub loop-provider-preserved : goal.loop-provider-preserved
loop-provider-preserved c =
    flat_step (λ (p : Text × Text). unless (provider_test c.args.rule c.args.self.now.problem c.args.self.now.graph p) (p.0, 0)) c.args.providers.now
    c.loop-provider.provider-index c.provider-item.result _ _ _ c.loop-provider-test.true c.provider-item.is
    (rw (c.as_str.ensures, c.keeps_of_provider-kept.ensures) at c.in_ok-add_unless.ensures) c.loop-provider.invariant
