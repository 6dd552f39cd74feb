use Rattle.std.proofs.Common.{◌≡◌, [], ◌∷◌, ◌∙◌, ◌/◌, ◌-◌, ap, length, take, drop}
use Rattle.clause_formulas.specs.Statements.{any_statement, both_statements, opposite}
use Rattle.word_formulas.proofs.Steps.{ok-same}
use Rattle.rule_formulas.specs.Governing.{Definitions, met_said, last_parts, last_said}
use Rattle.rule_formulas.proofs.Governing.{turn-none, turn-short, halves-said}
use Rattle.rule_formulas.proofs.variants.VariantBuilder.+last_formula.Goals as goal

pub returns-then-times-eq0 : goal.returns-then-times-eq0
returns-then-times-eq0 g t c =
    let condition = g.C.MetConditions.condition_of c.args.self.now.conditions.now in
    let table = c.args.self.now.scribe.table.now in
    let name = c.args.self.now.name.now in
    let variant = c.args.self.now.variant.now in
    let rows = c.args.rows.now in
    ok-same c.last_in_turn.result (any_statement (last_parts table condition name variant rows))
    (last_said table condition name variant c.args.times rows)
    (turn-none table condition name variant c.args.times rows c.if-times-eq0.true) c.last_in_turn.ensures

pub returns-then-rows-le-SHORT : goal.returns-then-rows-le-SHORT
returns-then-rows-le-SHORT g t c =
    let condition = g.C.MetConditions.condition_of c.args.self.now.conditions.now in
    let table = c.args.self.now.scribe.table.now in
    let name = c.args.self.now.name.now in
    let variant = c.args.self.now.variant.now in
    let rows = c.args.rows.now in
    ok-same c.last_in_turn-then-rows-le-SHORT.result (any_statement (last_parts table condition name variant rows))
    (last_said table condition name variant c.args.times rows)
    (turn-short table condition name variant c.args.times rows c.if-rows-le-SHORT.true) c.last_in_turn-then-rows-le-SHORT.ensures

pub returns : goal.returns
returns g t c =
    let condition = g.C.MetConditions.condition_of c.args.self.now.conditions.now in
    let table = c.args.self.now.scribe.table.now in
    let name = c.args.self.now.name.now in
    let variant = c.args.self.now.variant.now in
    let rows = c.args.rows.now in
    let said = λ (part : Definitions). last_said table condition name variant (c.args.times - 1) part in
    let first : c.split_at.result.0.now ≡ take (length rows / 2) rows = c.split_at.ensures.front in
    let second : c.split_at.result.1.now ≡ drop (length rows / 2) rows = c.split_at.ensures.back in
    let front = c.in_ok-front.front in
    let back = c.in_ok-back.back in
    ok-same c.join_halves.result (any_statement
    (both_statements (opposite (met_said condition name c.split_at.result.1.now)) front ∷ back ∷ []))
    (last_said table condition name variant c.args.times rows)
    (ap (λ (part : Definitions). any_statement (both_statements (opposite (met_said condition name part)) front ∷ back ∷ [])) second
    ∙ halves-said table condition name variant c.args.times rows front back c.if-times-eq0.false c.if-rows-le-SHORT.false
    (c.in_ok-front.ensures ∙ ap said first) (c.in_ok-back.ensures ∙ ap said second))
    c.join_halves.ensures
