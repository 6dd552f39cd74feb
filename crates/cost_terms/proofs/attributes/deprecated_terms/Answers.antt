use Rattle.std.proofs.Common.{ap, ◌∙◌, ℕ, List}
use Rattle.std.proofs.lemmas.Result.{IfOk-weaker}
use Rattle.std.specs.Prelude.{if◌then◌else◌}
use Rattle.graph_rules.specs.Weights.{is_deprecated}
use Rattle.cost_terms.specs.Spread.{weighed_choices, spread_terms}
use Rattle.cost_terms.proofs.attributes.deprecated_terms.Goals as goal

pub returns : goal.returns
returns c =
    let weight : List ℕ → List ℕ → ℕ = λ name version. if is_deprecated c.args.problem.now name version then 1 else 0 in
    let are = c.as_slice-2.ensures.value ∙ c.in_ok-weights.ensures
    ∙ ap (λ name. weighed_choices (weight name) c.as_slice.result.now) c.as_str.ensures
    ∙ ap (weighed_choices (weight c.args.block.now.name)) c.as_slice.ensures in
    IfOk-weaker c.spread.result _ _ (λ terms is. is ∙ ap spread_terms are) c.spread.ensures
