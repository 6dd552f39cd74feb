use Rattle.std.proofs.Common.{sym, ap, ◌∙◌, true, false, if◌then◌else◌, Bool, List}
use Rattle.spec_grammar.specs.declared.part.Spec.{Spec}
use Rattle.problem.specs.Problems.{world_of}
use Rattle.graph_formulas.specs.Lists.{some, just_one}
use Rattle.graph_formulas.specs.Parts.{holds_rule}
use Rattle.graph_formulas.specs.Words.{names_for, rule_said}
use Rattle.rule_formulas.specs.Paths.{path_by}
use Rattle.rule_formulas.specs.Terms.{choice_said}
use Rattle.word_formulas.proofs.Steps.{ok-same}
use Rattle.rule_formulas.proofs.Builders.{said-same}
use Rattle.rule_formulas.proofs.demand_builder.DemandBuilder.choice_formula.Goals as goal

pub returns-then-row : goal.returns-then-row
returns-then-row g c =
    let table = c.args.self.now.scribe.table.now in
    let world = world_of c.args.self.now.problem.now in
    let path = path_by table c.args.self.now.paths.now in
    let row = c.args.row.now in
    let name = c.args.name.now in
    let b = c.specs-specs.result in
    let one = λ (xs : List Spec). rule_said path table (just_one (holds_rule world (names_for table) name) xs) in
    let choice = λ (both : Bool). if both then one row.specs
    else rule_said path table (some (holds_rule world (names_for table) name) row.specs) in
    ok-same c.one_formula.result
    (rule_said (path_by b.scribe.table.now b.paths.now) b.scribe.table.now
    (just_one (holds_rule b.world.now (names_for b.scribe.table.now) name) c.as_slice.result.now))
    (choice_said path table world name row)
    (said-same b.scribe.table.now table b.world.now world b.paths.now c.args.self.now.paths.now
    (λ w names. just_one (holds_rule w names name) c.as_slice.result.now) c.specs-specs.ensures.table (c.specs-specs.ensures.world ∙ c.world-world.ensures)
    c.specs-specs.ensures.paths
    ∙ ap one c.as_slice.ensures ∙ sym (ap choice c.if-row.true))
    c.one_formula.ensures

pub returns-else-row : goal.returns-else-row
returns-else-row g c =
    let table = c.args.self.now.scribe.table.now in
    let world = world_of c.args.self.now.problem.now in
    let path = path_by table c.args.self.now.paths.now in
    let row = c.args.row.now in
    let name = c.args.name.now in
    let b = c.specs-specs.result in
    let any = λ (xs : List Spec). rule_said path table (some (holds_rule world (names_for table) name) xs) in
    let choice = λ (one : Bool). if one then rule_said path table (just_one (holds_rule world (names_for table) name) row.specs)
    else any row.specs in
    ok-same c.some_formula.result
    (rule_said (path_by b.scribe.table.now b.paths.now) b.scribe.table.now
    (some (holds_rule b.world.now (names_for b.scribe.table.now) name) c.as_slice-else-row.result.now))
    (choice_said path table world name row)
    (said-same b.scribe.table.now table b.world.now world b.paths.now c.args.self.now.paths.now
    (λ w names. some (holds_rule w names name) c.as_slice-else-row.result.now) c.specs-specs.ensures.table
    (c.specs-specs.ensures.world ∙ c.world-world.ensures)
    c.specs-specs.ensures.paths
    ∙ ap any c.as_slice-else-row.ensures ∙ sym (ap choice c.if-row.false))
    c.some_formula.ensures
