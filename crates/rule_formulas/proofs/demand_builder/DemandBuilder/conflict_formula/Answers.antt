use Rattle.std.proofs.Common.{ap, ◌∙◌}
use Rattle.clause_formulas.specs.Statements.{opposite}
use Rattle.problem.specs.Problems.{world_of}
use Rattle.graph_formulas.specs.Parts.{holds_rule}
use Rattle.graph_formulas.specs.Words.{names_for, rule_said}
use Rattle.rule_formulas.specs.Paths.{path_by}
use Rattle.word_formulas.proofs.Steps.{ok-is, both-same}
use Rattle.rule_formulas.proofs.Builders.{said-same}
use Rattle.rule_formulas.proofs.demand_builder.DemandBuilder.conflict_formula.Goals as goal

pub returns : goal.returns
returns g c =
    let table = c.args.self.now.scribe.table.now in
    let problem = c.args.self.now.problem.now in
    let condition = g.C.MetConditions.condition_of c.args.self.now.conditions.now in
    let name = c.args.name.now in
    let row = c.args.row.now in
    let b = c.specs.result in
    let met = ok-is c.met.result c.in_ok-met.met (condition name row.when) c.in_ok-met.was c.met.ensures in
    let holds = ok-is c.holds_formula.result c.in_ok-holds.holds
    (rule_said (path_by b.scribe.table.now b.paths.now) b.scribe.table.now (holds_rule b.world.now (names_for b.scribe.table.now) name row.spec))
    c.in_ok-holds.was c.holds_formula.ensures
    ∙ said-same b.scribe.table.now table b.world.now (world_of problem) b.paths.now c.args.self.now.paths.now
    (λ world names. holds_rule world names name row.spec) c.specs.ensures.table (c.specs.ensures.world ∙ c.world-world.ensures)
    c.specs.ensures.paths in
    c.negated.ensures ∙ ap opposite (c.in_ok-both.ensures ∙ both-same _ _ _ _ met holds)
