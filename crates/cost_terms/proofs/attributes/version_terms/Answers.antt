use Rattle.std.proofs.Common.{ap, ◌∙◌}
use Rattle.std.proofs.lemmas.Result.{IfOk-weaker}
use Rattle.graph_rules.specs.Weights.{version_weight}
use Rattle.cost_terms.specs.Spread.{weighed_choices, spread_terms}
use Rattle.cost_terms.proofs.attributes.version_terms.Goals as goal

pub returns : goal.returns
returns c =
    let weight = version_weight c.args.problem.now in
    let are = c.as_slice-2.ensures.value ∙ c.in_ok-weights.ensures
    ∙ ap (λ name. weighed_choices (weight name) c.as_slice.result.now) c.as_str.ensures
    ∙ ap (weighed_choices (weight c.args.block.now.name)) c.as_slice.ensures in
    IfOk-weaker c.spread.result _ _ (λ terms is. is ∙ ap spread_terms are) c.spread.ensures
