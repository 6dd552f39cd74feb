use Rattle.std.proofs.Common.{rules, sym, ap, ◌∙◌, map}
use Rattle.clause_formulas.specs.Statements.{all_statements}
use Rattle.graph_core.specs.Graphs.{Text}
use Rattle.graph_formulas.specs.Terms.{term_said}
use Rattle.word_formulas.specs.Builders.{no_paths}
use Rattle.word_formulas.proofs.Steps.{ok-same, each-said}
use Rattle.rule_formulas.specs.Terms.{plain_term}
use Rattle.rule_formulas.proofs.Lists.{over-mapped}
use Rattle.graph_formulas.specs.Variants.{variant_rule, variants_rule}
use Rattle.literal_table.specs.Choices.{Choices}
use Rattle.problem.specs.Problems.{Problem}
use Rattle.rule_formulas.proofs.variants.all_variants.Goals as goal

pub returns : goal.returns
returns g c =
    let condition = g.C.MetConditions.condition_of c.args.conditions.now in
    let table = c.args.table.now in
    let problem = c.args.problem.now in
    let name = c.args.name.now in
    let at : Problem × Text = c.in_ok-definitions.definitions in
    let first = λ (v : Text × Choices Text). v.0 in
    let rule = λ (variant : Text). variant_rule problem name variant in
    let said = λ (variant : Text). plain_term table condition (variant_rule problem name variant) in
    let formula = λ (v : Text × Choices Text). plain_term table condition (variant_rule at.0 at.1 v.0) in
    ok-same c.each.result (all_statements (map formula c.args.variants.now))
    (plain_term table condition (variants_rule problem (map first c.args.variants.now) name))
    (ap (λ (d : Problem × Text). all_statements
    (map (λ (v : Text × Choices Text). plain_term table condition (variant_rule d.0 d.1 v.0)) c.args.variants.now))
    c.in_ok-definitions.ensures
    ∙ ap all_statements (over-mapped said first c.args.variants.now)
    ∙ sym (each-said (term_said no_paths condition table) rule (map first c.args.variants.now)))
    (c.each.ensures formula (λ x r says. search rules))
