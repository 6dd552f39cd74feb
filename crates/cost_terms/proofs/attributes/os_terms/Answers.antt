use Rattle.std.proofs.Common.{ap, ◌∙◌}
use Rattle.std.proofs.lemmas.Result.{IfOk-weaker}
use Rattle.graph_rules.specs.Weights.{os_weight}
use Rattle.cost_terms.specs.Spread.{weighed_choices, spread_terms}
use Rattle.cost_terms.proofs.attributes.os_terms.Goals as goal

pub returns : goal.returns
returns c =
    let are = c.as_slice-2.ensures.value ∙ c.in_ok-weights.ensures
    ∙ ap (weighed_choices (os_weight c.args.problem.now)) c.as_slice.ensures in
    IfOk-weaker c.spread.result _ _ (λ terms is. is ∙ ap spread_terms are) c.spread.ensures
