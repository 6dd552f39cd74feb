use Rattle.std.proofs.Common.{rules, sym, ap, ◌∙◌, map}
use Rattle.std.specs.Str.{bytes_eq}
use Rattle.clause_formulas.specs.Statements.{all_statements, both_statements}
use Rattle.clause_formulas.specs.Rules.{fact}
use Rattle.graph_formulas.specs.Facts.{has_variant, has_value, node_has, word_said}
use Rattle.problem.specs.Closure.{is_filled}
use Rattle.graph_formulas.specs.Parts.{values_rule}
use Rattle.word_formulas.specs.Builders.{node_said, no_paths, plain_said}
use Rattle.word_formulas.proofs.Steps.{ok-same, ok-is, each-said, unless-said, both-same}
use Rattle.word_formulas.proofs.scribe.Scribe.values_formula.Goals as goal

pub returns : goal.returns
returns c =
    let table = c.args.self.now.table.now in
    let name = c.args.name.now in
    let wanted = c.args.wanted.now in
    let formula = λ (value : _). node_said table name (has_value wanted.0 (bytes_eq value)) in
    let values = ok-is c.each.result c.in_ok-values.values (all_statements (map formula c.values.result.now)) c.in_ok-values.was
    (c.each.ensures formula (λ x r says. search rules)) in
    let said = each-said (word_said no_paths table) (λ value. fact (node_has name (has_value wanted.0 (bytes_eq value)))) wanted.1 in
    ok-same c.both.result (both_statements c.in_ok-there.there c.in_ok-values.values) (plain_said table (values_rule name wanted))
    (both-same _ _ _ _ (c.in_ok-there.ensures ∙ unless-said (word_said no_paths table) (is_filled wanted.1)
    (fact (node_has name (has_variant wanted.0))))
    (values ∙ ap (λ l. all_statements (map formula l)) c.values.ensures.texts ∙ sym said)) c.both.ensures
