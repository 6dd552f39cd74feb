use Rattle.std.proofs.Common.{ap, ◌∙◌, ◌∷◌, []}
use Rattle.clause_formulas.specs.Statements.{any_statement, opposite}
use Rattle.graph_formulas.specs.Lists.{some, halves_rule}
use Rattle.graph_formulas.specs.Parts.{holds_rule}
use Rattle.graph_formulas.specs.Words.{names_for, rule_said}
use Rattle.rule_formulas.specs.Paths.{path_by}
use Rattle.word_formulas.proofs.Steps.{ok-same, ok-is}
use Rattle.rule_formulas.proofs.Few.{either-same}
use Rattle.rule_formulas.proofs.spec_builder.SpecBuilder.halves_formula.Goals as goal

pub returns : goal.returns
returns c =
    let table = c.args.self.now.scribe.table.now in
    let path = path_by table c.args.self.now.paths.now in
    let holds = holds_rule c.args.self.now.world.now (names_for table) c.args.name.now in
    let first = ok-is c.some_formula.result c.in_ok-first.first (rule_said path table (some holds c.args.front.now)) c.in_ok-first.was
    c.some_formula.ensures in
    let second = ok-is c.some_formula-2.result c.in_ok-second.second (rule_said path table (some holds c.args.back.now)) c.in_ok-second.was
    c.some_formula-2.ensures in
    ok-same c.either.result (any_statement (c.negated.result ∷ c.negated-2.result ∷ []))
    (rule_said path table (halves_rule holds c.args.front.now c.args.back.now))
    (either-same _ _ _ _ (c.negated.ensures ∙ ap opposite first) (c.negated-2.ensures ∙ ap opposite second)) c.either.ensures
