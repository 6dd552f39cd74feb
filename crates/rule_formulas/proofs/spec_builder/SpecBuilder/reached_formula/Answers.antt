use Rattle.std.proofs.Common.{sym, ap, ◌∙◌}
use Rattle.clause_formulas.specs.Statements.{both_statements}
use Rattle.graph_core.specs.Graphs.{Text}
use Rattle.graph_formulas.specs.Parts.{suits_rule}
use Rattle.graph_formulas.specs.Words.{rule_said}
use Rattle.word_formulas.specs.Builders.{plain_said}
use Rattle.word_formulas.proofs.PathFreeRows.{suits-agree}
use Rattle.word_formulas.proofs.Steps.{ok-same, ok-is, both-same}
use Rattle.rule_formulas.specs.Paths.{path_by, reached_rule}
use Rattle.rule_formulas.proofs.spec_builder.SpecBuilder.reached_formula.Goals as goal

pub returns : goal.returns
returns c =
    let table = c.args.self.now.scribe.table.now in
    let path = path_by table c.args.self.now.paths.now in
    let world = c.args.self.now.world.now in
    let from = c.args.from.now in
    let part = c.args.part.now in
    let asked = c.args.asked.now in
    let name = c.args.name.now in
    let suits = ok-is c.suits_formula.result c.in_ok-suits.suits (plain_said table (suits_rule world part asked name)) c.in_ok-suits.was
    c.suits_formula.ensures
    ∙ sym (suits-agree path table world part asked name) in
    let leads = c.path-path.ensures ∙ ap (λ (n : Text). path from n) c.as_str.ensures in
    ok-same c.both.result (both_statements c.in_ok-suits.suits c.path-path.result)
    (rule_said path table (reached_rule world from part asked name))
    (both-same _ _ _ _ suits leads) c.both.ensures
