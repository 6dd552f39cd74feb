use Rattle.std.proofs.Common.{rules, sym, ap, ◌∙◌, map}
use Rattle.clause_formulas.specs.Statements.{all_statements}
use Rattle.spec_grammar.specs.declared.part.Spec.{Spec}
use Rattle.graph_formulas.specs.Facts.{word_said}
use Rattle.problem.specs.Closure.{is_filled}
use Rattle.graph_formulas.specs.Parts.{there_rule, meets_rule, tops_rule}
use Rattle.word_formulas.specs.Builders.{no_paths, plain_said}
use Rattle.word_formulas.proofs.Steps.{ok-same, ok-is, each-said, unless-said, both-same}
use Rattle.word_formulas.proofs.scribe.Scribe.tops_formula.Goals as goal

pub returns : goal.returns
returns c =
    let table = c.args.self.now.table.now in
    let specs = c.args.when.now.specs in
    let said = word_said no_paths table in
    let rule = λ (spec : Spec). meets_rule c.args.world.now c.args.name.now spec.top in
    let formula = λ (spec : Spec). plain_said table (meets_rule c.args.world.now c.args.name.now spec.top) in
    let tops = ok-is c.each.result c.in_ok-tops.tops (all_statements (map formula c.as_slice.result.now)) c.in_ok-tops.was
    (c.each.ensures formula (λ x r says. search rules))
    ∙ ap (λ l. all_statements (map formula l)) c.as_slice.ensures ∙ sym (each-said said rule specs) in
    let there = c.node_of_condition-there.ensures ∙ unless-said said (is_filled specs) (there_rule c.args.name.now) in
    ok-same c.both.result _ (plain_said table (tops_rule c.args.world.now c.args.name.now specs)) (both-same _ _ _ _ there tops)
    c.both.ensures
