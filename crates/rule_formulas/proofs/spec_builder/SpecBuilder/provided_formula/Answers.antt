use Rattle.clause_formulas.specs.Statements.{both_statements}
use Rattle.clause_formulas.specs.Rules.{fact, both_of}
use Rattle.graph_formulas.specs.Facts.{provides_as}
use Rattle.graph_formulas.specs.Words.{rule_said}
use Rattle.word_formulas.specs.Builders.{plain_said}
use Rattle.word_formulas.proofs.Steps.{ok-same, ok-is, both-same}
use Rattle.rule_formulas.specs.Paths.{path_by, reached_rule}
use Rattle.rule_formulas.proofs.spec_builder.SpecBuilder.provided_formula.Goals as goal

pub returns : goal.returns
returns c =
    let table = c.args.self.now.scribe.table.now in
    let path = path_by table c.args.self.now.paths.now in
    let asked = c.args.asked.now in
    let name = c.args.choice.now.0 in
    let reaches = reached_rule c.args.self.now.world.now c.args.from.now c.args.part.now asked name in
    let provides = ok-is c.provider_formula.result c.in_ok-provides.provides (plain_said table (fact (provides_as asked name)))
    c.in_ok-provides.was c.provider_formula.ensures in
    let reached = ok-is c.reached_formula.result c.in_ok-reached.reached (rule_said path table reaches) c.in_ok-reached.was
    c.reached_formula.ensures in
    ok-same c.both.result (both_statements c.in_ok-provides.provides c.in_ok-reached.reached)
    (rule_said path table (both_of (fact (provides_as asked name)) reaches))
    (both-same _ _ _ _ provides reached) c.both.ensures
