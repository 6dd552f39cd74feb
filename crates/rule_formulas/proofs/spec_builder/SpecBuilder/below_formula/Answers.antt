use Rattle.std.proofs.Common.{sym, ap, Option}
use Rattle.graph_core.specs.Graphs.{Text}
use Rattle.graph_formulas.specs.Lists.{one_keeps}
use Rattle.graph_formulas.specs.Parts.{asked_rule, below_rule}
use Rattle.graph_formulas.specs.Words.{names_for, rule_said}
use Rattle.word_formulas.proofs.Steps.{ok-same}
use Rattle.rule_formulas.specs.Paths.{path_by, reached_rule}
use Rattle.rule_formulas.proofs.spec_builder.SpecBuilder.below_formula.Goals as goal

pub returns-in-Some : goal.returns-in-Some
returns-in-Some c =
    let table = c.args.self.now.scribe.table.now in
    let path = path_by table c.args.self.now.paths.now in
    let world = c.args.self.now.world.now in
    let from = c.args.from.now in
    let part = c.args.part.now in
    let said = λ (o : Option Text). rule_said path table
    (one_keeps o (λ (a : Text). asked_rule world (names_for table) a (reached_rule world from part a))) in
    ok-same c.asked_formula.result (rule_said path table
    (asked_rule world (names_for table) c.in-Some.asked (reached_rule world from part c.in-Some.asked)))
    (rule_said path table (below_rule world (names_for table) from part)) (sym (ap said c.in-Some.is)) c.asked_formula.ensures
