use Rattle.std.proofs.Common.{rules, sym, ap, ◌∙◌, map}
use Rattle.clause_store.specs.declared.Lit.{Lit}
use Rattle.clause_formulas.specs.Statements.{any_statement}
use Rattle.graph_core.specs.Graphs.{Text}
use Rattle.literal_table.specs.Tables.{packages_of}
use Rattle.virtuals.specs.Virtuals.{is_virtual}
use Rattle.graph_formulas.specs.Parts.{asked_rule}
use Rattle.graph_formulas.specs.Words.{names_for, rule_said}
use Rattle.word_formulas.specs.Asked.{NodeRule}
use Rattle.word_formulas.proofs.Steps.{ok-same}
use Rattle.rule_formulas.specs.Paths.{path_by, reached_rule}
use Rattle.rule_formulas.proofs.AskedPaths.{provided, path-virtual, path-package}
use Rattle.rule_formulas.proofs.spec_builder.SpecBuilder.asked_formula.Goals as goal

pub returns-then-is_virtual : goal.returns-then-is_virtual
returns-then-is_virtual c =
    let table = c.args.self.now.scribe.table.now in
    let path = path_by table c.args.self.now.paths.now in
    let world = c.args.self.now.world.now in
    let asked = c.args.asked.now in
    let keeps : NodeRule = reached_rule world c.args.from.now c.args.part.now asked in
    let formula = λ (choice : Text × Lit). provided path table world asked keeps choice.0 in
    ok-same c.some.result (any_statement (map formula c.packages.result.now))
    (rule_said path table (asked_rule world (names_for table) asked keeps))
    (ap (λ l. any_statement (map formula l)) (c.packages.ensures ∙ ap (packages_of table) c.as_str-then-is_virtual.ensures)
    ∙ path-virtual path table world asked keeps (sym (ap (is_virtual world.recipes) c.as_str.ensures) ∙ sym c.is_virtual.ensures
    ∙ c.if-is_virtual.true))
    (c.some.ensures formula (λ x r says. search rules))

pub returns-else-is_virtual : goal.returns-else-is_virtual
returns-else-is_virtual c =
    let table = c.args.self.now.scribe.table.now in
    let path = path_by table c.args.self.now.paths.now in
    let world = c.args.self.now.world.now in
    let asked = c.args.asked.now in
    let keeps : NodeRule = reached_rule world c.args.from.now c.args.part.now asked in
    ok-same c.reached_formula.result (rule_said path table (keeps asked))
    (rule_said path table (asked_rule world (names_for table) asked keeps))
    (path-package path table world asked keeps (sym (ap (is_virtual world.recipes) c.as_str.ensures) ∙ sym c.is_virtual.ensures
    ∙ c.if-is_virtual.false))
    c.reached_formula.ensures
