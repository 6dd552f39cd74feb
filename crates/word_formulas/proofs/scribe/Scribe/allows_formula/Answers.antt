use Rattle.std.proofs.Common.{rules, not, ap, ◌∙◌, List}
use Rattle.clause_formulas.specs.Statements.{opposite}
use Rattle.condition_rules.specs.Words.{is_one_text}
use Rattle.graph_core.specs.Graphs.{Text}
use Rattle.graph_formulas.specs.Facts.{has_value}
use Rattle.graph_formulas.specs.Variants.{allows_rule}
use Rattle.word_formulas.specs.Builders.{node_said, plain_said}
use Rattle.word_formulas.proofs.Steps.{ok-same, ok-is, both-same}
use Rattle.word_formulas.proofs.scribe.Scribe.allows_formula.Goals as goal

pub returns : goal.returns
returns c =
    let table = c.args.self.now.table.now in
    let name = c.args.name.now in
    let variant = c.args.variant.now in
    let values = c.values-values.result.now in
    let passes = λ (texts : List Text). node_said table name (has_value variant (λ value. not (is_one_text texts value))) in
    let other = ok-is c.value_passes.result c.in_ok-other.other (passes values) c.in_ok-other.was
    (c.value_passes.ensures (λ value. not (is_one_text values value)) (λ x b says. search rules))
    ∙ ap passes c.values-values.ensures.texts in
    let count = ok-is c.count_formula.result c.in_ok-count.count _ c.in_ok-count.was c.count_formula.ensures in
    ok-same c.both.result _ (plain_said table (allows_rule name variant c.args.row.now))
    (both-same _ _ _ _ (c.negated.ensures ∙ ap opposite other) count) c.both.ensures
