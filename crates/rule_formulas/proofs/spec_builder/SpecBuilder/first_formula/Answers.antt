use Rattle.std.proofs.Common.{ap, ◌∙◌, ◌∷◌, []}
use Rattle.clause_formulas.specs.Statements.{any_statement, opposite}
use Rattle.graph_formulas.specs.Lists.{some}
use Rattle.graph_formulas.specs.Parts.{holds_rule}
use Rattle.graph_formulas.specs.Words.{names_for, rule_said}
use Rattle.rule_formulas.specs.Paths.{path_by}
use Rattle.word_formulas.proofs.Steps.{ok-same, ok-is}
use Rattle.rule_formulas.specs.Terms.{apart_said}
use Rattle.rule_formulas.proofs.Few.{either-same}
use Rattle.rule_formulas.proofs.spec_builder.SpecBuilder.first_formula.Goals as goal

pub returns : goal.returns
returns c =
    let table = c.args.self.now.scribe.table.now in
    let path = path_by table c.args.self.now.paths.now in
    let holds = holds_rule c.args.self.now.world.now (names_for table) c.args.name.now in
    let first = ok-is c.holds_formula.result c.in_ok-first.first (rule_said path table (holds c.args.spec.now)) c.in_ok-first.was
    c.holds_formula.ensures in
    let others = ok-is c.some_formula.result c.in_ok-others.others (rule_said path table (some holds c.args.rest.now)) c.in_ok-others.was
    c.some_formula.ensures in
    ok-same c.either.result (any_statement (c.negated.result ∷ c.negated-2.result ∷ []))
    (apart_said path table holds c.args.spec.now c.args.rest.now)
    (either-same _ _ _ _ (c.negated.ensures ∙ ap opposite first) (c.negated-2.ensures ∙ ap opposite others)) c.either.ensures
