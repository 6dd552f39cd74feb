use Rattle.std.proofs.Common.{rules, sym, ap, ◌∙◌, map, filter, List}
use Rattle.std.specs.Str.{bytes_eq}
use Rattle.clause_formulas.specs.Statements.{all_statements}
use Rattle.recipe_data.specs.declared.recipe.ProvideRow.{ProvideRow}
use Rattle.graph_core.specs.Graphs.{Text}
use Rattle.problem.specs.Problems.{provides_at}
use Rattle.graph_formulas.specs.Lists.{each_keeps}
use Rattle.graph_formulas.specs.Words.{names_for}
use Rattle.graph_formulas.specs.Terms.{term_said}
use Rattle.graph_formulas.specs.Together.{by_row_rule}
use Rattle.word_formulas.specs.Builders.{no_paths}
use Rattle.word_formulas.proofs.Steps.{ok-same, each-said}
use Rattle.rule_formulas.specs.Terms.{plain_term, no_conditions}
use Rattle.rule_formulas.proofs.together.ProviderBuilder.rows_together.Goals as goal

pub returns : goal.returns
returns c =
    let table = c.args.self.now.scribe.table.now in
    let problem = c.args.self.now.problem.now in
    let p : Text × Text = (c.args.virtual_name.now, c.args.provider.now) in
    let rule = λ (row : ProvideRow). by_row_rule problem (names_for table) p row in
    let formula = λ (row : ProvideRow). plain_term table no_conditions (by_row_rule problem (names_for table) p row) in
    let test = λ (row : ProvideRow). bytes_eq row.name p.0 in
    ok-same c.each_where.result (all_statements (map formula (filter test c.provides_at.result.now)))
    (plain_term table no_conditions (each_keeps rule (filter test (provides_at problem p.1))))
    (ap (λ (l : List ProvideRow). all_statements (map formula (filter test l))) (c.provides_at.ensures
    ∙ ap (provides_at problem) c.as_str.ensures)
    ∙ sym (each-said (term_said no_paths no_conditions table) rule (filter test (provides_at problem p.1))))
    (c.each_where.ensures test formula (λ x b says. search rules) (λ x r says. search rules))
