use Rattle.std.proofs.Common.{ap, ◌∙◌}
use Rattle.clause_formulas.specs.Statements.{both_statements, opposite}
use Rattle.word_formulas.specs.Builders.{plain_said}
use Rattle.word_formulas.proofs.Steps.{ok-same, ok-is, both-same}
use Rattle.graph_formulas.specs.Variants.{allows_rule}
use Rattle.rule_formulas.specs.Governing.{met_said, governs_said}
use Rattle.rule_formulas.proofs.variants.VariantBuilder.governs_formula.Goals as goal

pub returns : goal.returns
returns g c =
    let condition = g.C.MetConditions.condition_of c.args.self.now.conditions.now in
    let table = c.args.self.now.scribe.table.now in
    let name = c.args.self.now.name.now in
    let variant = c.args.self.now.variant.now in
    let row = c.args.row.now in
    let rest = c.args.rest.now in
    let later = ok-is c.met_formula.result c.in_ok-later.later (met_said condition name rest) c.in_ok-later.was c.met_formula.ensures in
    let met = ok-is c.met.result c.in_ok-met.met (condition name row.when) c.in_ok-met.was c.met.ensures in
    let last = c.in_ok-last.ensures ∙ both-same _ _ _ _ (c.negated.ensures ∙ ap opposite later) met in
    let allowed = ok-is c.allows_formula.result c.in_ok-allowed.allowed (plain_said table (allows_rule name variant row))
    c.in_ok-allowed.was c.allows_formula.ensures in
    ok-same c.both-2.result (both_statements c.in_ok-last.last c.in_ok-allowed.allowed) (governs_said table condition name variant row rest)
    (both-same _ _ _ _ last allowed) c.both-2.ensures
