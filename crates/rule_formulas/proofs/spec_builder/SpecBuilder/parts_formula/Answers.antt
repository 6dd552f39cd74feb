use Rattle.std.proofs.Common.{rules, sym, map}
use Rattle.clause_formulas.specs.Statements.{all_statements}
use Rattle.spec_grammar.specs.declared.part.Part.{Part}
use Rattle.graph_formulas.specs.Facts.{word_said}
use Rattle.graph_formulas.specs.Lists.{each_keeps}
use Rattle.graph_formulas.specs.Parts.{below_rule}
use Rattle.graph_formulas.specs.Words.{names_for, rule_said}
use Rattle.word_formulas.proofs.Steps.{ok-same, each-said}
use Rattle.rule_formulas.specs.Paths.{path_by}
use Rattle.rule_formulas.proofs.spec_builder.SpecBuilder.parts_formula.Goals as goal

pub returns : goal.returns
returns c =
    let table = c.args.self.now.scribe.table.now in
    let path = path_by table c.args.self.now.paths.now in
    let rule = λ (part : Part). below_rule c.args.self.now.world.now (names_for table) c.args.from.now part in
    let formula = λ (part : Part). rule_said path table (below_rule c.args.self.now.world.now (names_for table) c.args.from.now part) in
    ok-same c.each.result (all_statements (map formula c.args.parts.now)) (rule_said path table (each_keeps rule c.args.parts.now))
    (sym (each-said (word_said path table) rule c.args.parts.now)) (c.each.ensures formula (λ x r says. search rules))
