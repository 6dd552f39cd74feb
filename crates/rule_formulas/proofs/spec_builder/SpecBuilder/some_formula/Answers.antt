use Rattle.std.proofs.Common.{rules, sym, map}
use Rattle.clause_formulas.specs.Statements.{any_statement}
use Rattle.spec_grammar.specs.declared.part.Spec.{Spec}
use Rattle.graph_formulas.specs.Facts.{word_said}
use Rattle.graph_formulas.specs.Lists.{some}
use Rattle.graph_formulas.specs.Parts.{holds_rule}
use Rattle.graph_formulas.specs.Words.{names_for, rule_said}
use Rattle.rule_formulas.specs.Paths.{path_by}
use Rattle.word_formulas.proofs.Steps.{ok-same, some-said}
use Rattle.rule_formulas.proofs.spec_builder.SpecBuilder.some_formula.Goals as goal

pub returns : goal.returns
returns c =
    let table = c.args.self.now.scribe.table.now in
    let path = path_by table c.args.self.now.paths.now in
    let rule = λ (spec : Spec). holds_rule c.args.self.now.world.now (names_for table) c.args.name.now spec in
    let formula = λ (spec : Spec). rule_said path table (holds_rule c.args.self.now.world.now (names_for table) c.args.name.now spec) in
    ok-same c.some.result (any_statement (map formula c.args.specs.now)) (rule_said path table (some rule c.args.specs.now))
    (sym (some-said (word_said path table) rule c.args.specs.now)) (c.some.ensures formula (λ x r says. search rules))
