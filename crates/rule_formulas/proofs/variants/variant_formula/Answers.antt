use Rattle.std.proofs.Common.{◌≡◌, sym, ap, ◌∙◌, ◌/◌, map, length}
use Rattle.std.specs.Borrow.{Bor}
use Rattle.clause_formulas.specs.Statements.{both_statements}
use Rattle.graph_core.specs.Graphs.{Text}
use Rattle.word_formulas.specs.Builders.{node_said}
use Rattle.word_formulas.proofs.Steps.{ok-same, ok-is, both-same, implies-same}
use Rattle.rule_formulas.specs.Terms.{plain_term}
use Rattle.recipe_data.specs.declared.recipe.VariantRow.{VariantRow}
use Rattle.graph_formulas.specs.Facts.{has_variant}
use Rattle.graph_formulas.specs.Variants.{definitions, variant_rule}
use Rattle.rule_formulas.specs.Governing.{met_said, last_said}
use Rattle.rule_formulas.proofs.Governing.{met-is, last-is}
use Rattle.rule_formulas.proofs.variants.variant_formula.Goals as goal

pub returns : goal.returns
returns g c =
    let condition = g.C.MetConditions.condition_of c.args.conditions.now in
    let table = c.args.table.now in
    let problem = c.args.definitions.now.0 in
    let name = c.name-name.result.now in
    let variant = c.args.variant.now in
    let there_said = node_said table name (has_variant variant) in
    let rows = c.as_slice-rows.result.now in
    let ds = definitions problem name variant in
    let own = λ (row : Bor VariantRow). row.now in
    let same : map own rows ≡ ds = ap (map own) c.as_slice-rows.ensures.value ∙ c.in_ok-found.ensures
    ∙ ap (λ (n : Text). definitions problem n variant) (sym c.name-name.ensures) in
    let met = ok-is c.met_formula.result c.in_ok-met.met (met_said condition name rows) c.in_ok-met.was c.met_formula.ensures
    ∙ met-is table condition name variant rows ds same in
    let there = ok-is c.has_variant.result c.in_ok-there.there there_said c.in_ok-there.was c.has_variant.ensures in
    let where_met = c.in_ok-where_met.ensures ∙ implies-same _ _ _ _ met there in
    let again = ok-is c.has_variant-2.result c.in_ok-again.again there_said c.in_ok-again.was c.has_variant-2.ensures in
    let last = ok-is c.last_formula.result c.in_ok-last.last (last_said table condition name variant (length rows / 8) rows)
    c.in_ok-last.was c.last_formula.ensures
    ∙ last-is table condition name variant rows ds same in
    let where_there = c.in_ok-where_there.ensures ∙ implies-same _ _ _ _ again last in
    let both : both_statements c.in_ok-where_met.where_met c.in_ok-where_there.where_there
    ≡ plain_term table condition (variant_rule problem name variant) = both-same _ _ _ _ where_met where_there in
    ok-same c.both.result (both_statements c.in_ok-where_met.where_met c.in_ok-where_there.where_there)
    (plain_term table condition (variant_rule problem c.args.definitions.now.1 variant))
    (both ∙ ap (λ (n : Text). plain_term table condition (variant_rule problem n variant)) c.name-name.ensures) c.both.ensures
