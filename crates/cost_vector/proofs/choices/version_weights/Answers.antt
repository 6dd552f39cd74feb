use Rattle.std.proofs.Common.{ap, ◌∙◌}
use Rattle.std.proofs.lemmas.Result.{IfOk-weaker}
use Rattle.graph_rules.specs.Weights.{listed_in}
use Rattle.cost_vector.proofs.RankLaws.{all_weigh}
use Rattle.cost_vector.proofs.choices.version_weights.Goals as goal

pub returns : goal.returns
returns g c =
    let ranked = c.in_ok-table.ensures ∙ c.as_slice.ensures.value ∙ c.in_ok-ranked.ensures in
    let lists = c.listed_in-lists.ensures ∙ ap listed_in c.entry_of.ensures in
    IfOk-weaker c.weigh.result _ _ (λ weights are. are ∙ all_weigh c.args.problem.now c.args.name.now c.in_ok-table.table
    c.listed_in-lists.result.now c.versions_at.result.now ranked lists c.versions_at.ensures c.args.choices.now) c.weigh.ensures
