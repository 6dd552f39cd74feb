use Rattle.std.proofs.Common.{rules, sym, ap, ◌∙◌, map}
use Rattle.clause_formulas.specs.Statements.{all_statements}
use Rattle.spec_grammar.specs.declared.part.Spec.{Spec}
use Rattle.graph_formulas.specs.Facts.{word_said}
use Rattle.graph_formulas.specs.Parts.{holds_rule, condition_rule}
use Rattle.graph_formulas.specs.Words.{names_for, rule_said}
use Rattle.word_formulas.proofs.Steps.{ok-same, each-said}
use Rattle.rule_formulas.specs.Paths.{path_by}
use Rattle.rule_formulas.proofs.holds.condition_formula.Goals as goal

pub returns : goal.returns
unfolding condition_rule
returns c =
    let table = c.args.table.now in
    let path = path_by table c.args.paths.now in
    let rule = λ (spec : Spec). holds_rule c.args.world.now (names_for table) c.args.name.now spec in
    let formula = λ (spec : Spec). rule_said path table (holds_rule c.args.world.now (names_for table) c.args.name.now spec) in
    ok-same c.each.result (all_statements (map formula c.as_slice.result.now))
    (rule_said path table (condition_rule c.args.world.now (names_for table) c.args.name.now c.args.when.now))
    (ap (λ l. all_statements (map formula l)) c.as_slice.ensures ∙ sym (each-said (word_said path table) rule c.args.when.now.specs))
    (c.each.ensures formula (λ x r says. search rules))
