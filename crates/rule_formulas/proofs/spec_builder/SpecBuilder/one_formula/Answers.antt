use Rattle.std.proofs.Common.{sym, ◌∙◌, ◌/◌, length, map}
use Rattle.clause_formulas.specs.Statements.{all_statements, both_statements}
use Rattle.clause_formulas.proofs.RuleLaws.{all_rules-said}
use Rattle.graph_formulas.specs.Facts.{word_said}
use Rattle.graph_formulas.specs.Lists.{some, few_rules, just_one}
use Rattle.graph_formulas.specs.Parts.{holds_rule}
use Rattle.graph_formulas.specs.Words.{names_for, rule_said}
use Rattle.rule_formulas.specs.Paths.{path_by}
use Rattle.word_formulas.proofs.Steps.{ok-same, ok-is, both-same}
use Rattle.rule_formulas.proofs.spec_builder.SpecBuilder.one_formula.Goals as goal

pub returns : goal.returns
returns c =
    let table = c.args.self.now.scribe.table.now in
    let path = path_by table c.args.self.now.paths.now in
    let holds = holds_rule c.args.self.now.world.now (names_for table) c.args.name.now in
    let rules = few_rules (length c.args.specs.now / 8) holds c.args.specs.now in
    let some_said = ok-is c.some_formula.result c.in_ok-some.some (rule_said path table (some holds c.args.specs.now)) c.in_ok-some.was
    c.some_formula.ensures in
    let few_said = ok-is c.few_formula.result c.in_ok-few.few (all_statements (map (rule_said path table) rules)) c.in_ok-few.was
    c.few_formula.ensures in
    ok-same c.both.result (both_statements c.in_ok-some.some c.in_ok-few.few) (rule_said path table (just_one holds c.args.specs.now))
    (both-same _ _ _ _ some_said (few_said ∙ sym (all_rules-said (word_said path table) rules))) c.both.ensures
