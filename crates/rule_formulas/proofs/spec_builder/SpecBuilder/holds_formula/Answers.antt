use Rattle.std.proofs.Common.{sym, ap, ◌∙◌, List}
use Rattle.clause_formulas.specs.Statements.{both_statements}
use Rattle.spec_grammar.specs.declared.part.Part.{Part}
use Rattle.graph_formulas.specs.Lists.{each_keeps}
use Rattle.graph_formulas.specs.Parts.{below_rule, holds_rule, meets_rule}
use Rattle.graph_formulas.specs.Words.{names_for, rule_said}
use Rattle.word_formulas.specs.Builders.{plain_said}
use Rattle.word_formulas.proofs.PathFree.{meets-agree}
use Rattle.word_formulas.proofs.Steps.{ok-same, ok-is, both-same}
use Rattle.rule_formulas.specs.Paths.{path_by}
use Rattle.rule_formulas.proofs.spec_builder.SpecBuilder.holds_formula.Goals as goal

pub returns : goal.returns
unfolding holds_rule
returns c =
    let table = c.args.self.now.scribe.table.now in
    let path = path_by table c.args.self.now.paths.now in
    let world = c.args.self.now.world.now in
    let name = c.args.name.now in
    let spec = c.args.spec.now in
    let said = λ (parts : List Part). rule_said path table (each_keeps (below_rule world (names_for table) name) parts) in
    let meets = ok-is c.meets_formula.result c.in_ok-meets.meets (plain_said table (meets_rule world name spec.top)) c.in_ok-meets.was
    c.meets_formula.ensures
    ∙ sym (meets-agree path table world name spec.top) in
    let below = ok-is c.parts_formula.result c.in_ok-below.below (said c.as_slice.result.now) c.in_ok-below.was c.parts_formula.ensures
    ∙ ap said c.as_slice.ensures in
    ok-same c.both.result (both_statements c.in_ok-meets.meets c.in_ok-below.below)
    (rule_said path table (holds_rule world (names_for table) name spec))
    (both-same _ _ _ _ meets below) c.both.ensures
