use Rattle.std.proofs.Common.{ap, ◌∙◌}
use Rattle.clause_formulas.specs.Rules.{fact}
use Rattle.graph_core.specs.Graphs.{Text}
use Rattle.graph_formulas.specs.Edges.{use_rule}
use Rattle.graph_formulas.specs.Facts.{has_virtual}
use Rattle.word_formulas.specs.Builders.{plain_said}
use Rattle.word_formulas.proofs.Steps.{ok-same}
use Rattle.rule_formulas.specs.Terms.{plain_term, no_conditions}
use Rattle.rule_formulas.proofs.used.use_formula.Goals as goal

pub returns : goal.returns
returns c =
    let name = c.args.name.now in
    let provider = c.args.provider.now in
    let said = λ (n p v : Text). plain_said c.args.scribe.now.table.now (fact (has_virtual n p v)) in
    ok-same c.has_virtual.result (said c.as_str.result.now c.as_str-2.result.now c.as_str-3.result.now)
    (plain_term c.args.scribe.now.table.now no_conditions (use_rule (c.args.virtual_name.now, provider) name))
    (ap (λ (n : Text). said n c.as_str-2.result.now c.as_str-3.result.now) c.as_str.ensures
    ∙ ap (λ (p : Text). said name p c.as_str-3.result.now) c.as_str-2.ensures
    ∙ ap (said name provider) c.as_str-3.ensures) c.has_virtual.ensures
