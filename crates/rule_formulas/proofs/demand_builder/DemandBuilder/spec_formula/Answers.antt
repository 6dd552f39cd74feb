use Rattle.std.proofs.Common.{sym, ap, ◌∙◌, Option}
use Rattle.graph_core.specs.Graphs.{Text}
use Rattle.problem.specs.Problems.{world_of}
use Rattle.graph_formulas.specs.Lists.{one_keeps}
use Rattle.graph_formulas.specs.Parts.{holds_rule}
use Rattle.graph_formulas.specs.Words.{names_for, rule_said}
use Rattle.graph_formulas.specs.Directives.{root_rule}
use Rattle.rule_formulas.specs.Paths.{path_by}
use Rattle.word_formulas.proofs.Steps.{ok-same}
use Rattle.rule_formulas.proofs.Builders.{said-same}
use Rattle.rule_formulas.proofs.demand_builder.DemandBuilder.spec_formula.Goals as goal

pub returns-in-Some : goal.returns-in-Some
returns-in-Some g c =
    let table = c.args.self.now.scribe.table.now in
    let problem = c.args.self.now.problem.now in
    let path = path_by table c.args.self.now.paths.now in
    let spec = c.args.spec.now in
    let said = λ (n : Text). rule_said path table (holds_rule (world_of problem) (names_for table) n spec) in
    let root = λ (o : Option Text). rule_said path table
    (one_keeps o (λ (n : Text). holds_rule (world_of problem) (names_for table) n spec)) in
    let b = c.specs.result in
    ok-same c.holds_formula.result
    (rule_said (path_by b.scribe.table.now b.paths.now) b.scribe.table.now (holds_rule b.world.now (names_for b.scribe.table.now) c.as_str.result.now spec))
    (rule_said path table (root_rule problem (names_for table) spec))
    (said-same b.scribe.table.now table b.world.now (world_of problem) b.paths.now c.args.self.now.paths.now
    (λ world names. holds_rule world names c.as_str.result.now spec) c.specs.ensures.table (c.specs.ensures.world ∙ c.world-world.ensures)
    c.specs.ensures.paths
    ∙ ap said c.as_str.ensures ∙ sym (ap root c.in-Some.is))
    c.holds_formula.ensures
