use Rattle.std.proofs.Common.{◌∙◌}
use Rattle.std.proofs.lemmas.Result.{IfOk-weaker}
use Rattle.cost_vector.proofs.IndexLaws.{all_marked}
use Rattle.cost_vector.proofs.choices.deprecated_weights.Goals as goal

pub returns : goal.returns
returns g c = IfOk-weaker c.mark.result _ _ (λ weights are. are ∙ all_marked c.args.problem.now c.args.name.now c.versions_at.result.now
    c.in_ok-index.index c.in_ok-index.ensures c.versions_at.ensures c.args.choices.now) c.mark.ensures
