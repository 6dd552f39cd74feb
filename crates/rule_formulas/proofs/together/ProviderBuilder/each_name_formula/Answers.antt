use Rattle.std.proofs.Common.{rules, sym, ap, ◌∙◌, map, filter, List}
use Rattle.std.specs.Prelude.{◌==◌}
use Rattle.clause_formulas.specs.Statements.{all_statements}
use Rattle.recipe_data.specs.declared.recipe.ProvideRow.{ProvideRow}
use Rattle.problem.specs.Problems.{provides_at}
use Rattle.graph_formulas.specs.Words.{names_for}
use Rattle.graph_formulas.specs.Terms.{term_said}
use Rattle.graph_formulas.specs.Together.{no_other_rule, each_name_rule}
use Rattle.word_formulas.specs.Builders.{no_paths}
use Rattle.word_formulas.proofs.Steps.{ok-same, each-said}
use Rattle.rule_formulas.specs.Terms.{plain_term, no_conditions}
use Rattle.rule_formulas.proofs.together.ProviderBuilder.each_name_formula.Goals as goal

pub returns : goal.returns
returns c =
    let table = c.args.self.now.scribe.table.now in
    let problem = c.args.self.now.problem.now in
    let name = c.args.name.now in
    let rule = λ (other : ProvideRow). no_other_rule (names_for table) name other.name in
    let formula = λ (other : ProvideRow). plain_term table no_conditions (no_other_rule (names_for table) name other.name) in
    let test = λ (other : ProvideRow). other.number == c.args.row.now.number in
    ok-same c.each_where.result (all_statements (map formula (filter test c.provides_at.result.now)))
    (plain_term table no_conditions (each_name_rule problem (names_for table) name c.args.row.now))
    (ap (λ (l : List ProvideRow). all_statements (map formula (filter test l))) (c.provides_at.ensures
    ∙ ap (provides_at problem) c.as_str.ensures)
    ∙ sym (each-said (term_said no_paths no_conditions table) rule (filter test (provides_at problem name))))
    (c.each_where.ensures test formula (λ x b says. search rules) (λ x r says. search rules))
