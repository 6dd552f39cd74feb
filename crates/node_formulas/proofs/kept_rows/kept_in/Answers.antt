use Rattle.std.proofs.Common.{sym, ap, ◌∙◌, map, List}
use Rattle.clause_store.specs.declared.Lit.{Lit}
use Rattle.clause_formulas.specs.Rules.{fact, if_so}
use Rattle.clause_formulas.specs.Statements.{all_statements}
use Rattle.graph_core.specs.Graphs.{Text}
use Rattle.graph_core.specs.declared.node.Origin.{Origin}
use Rattle.literal_table.specs.Choices.{choice_values}
use Rattle.graph_formulas.specs.Facts.{word_said, has_origin, node_has}
use Rattle.graph_formulas.specs.Kept.{origin_rule, kept_rule}
use Rattle.problem.specs.Nodes.{same_origin}
use Rattle.graph_formulas.specs.Laws.{children_of}
use Rattle.word_formulas.specs.Builders.{no_paths, plain_said}
use Rattle.word_formulas.proofs.Steps.{ok-same, each-said}
use Rattle.node_formulas.proofs.Steps.{map-map}
use Rattle.node_formulas.proofs.kept_rows.kept_in.Goals as goal

pub returns : goal.returns
returns c =
    let table = c.args.table.now in
    let problem = c.args.problem.now in
    let name = c.args.name.now in
    let origins = c.args.block.now.origins in
    let rule = λ (children : List Text) (origin : Origin). if_so (fact (node_has name (has_origin (same_origin origin))))
    (origin_rule problem children name origin) in
    ok-same c.origins_formula.result _ (plain_said table (kept_rule problem (children_of table name) (choice_values origins) name))
    (ap (λ (children : List Text). all_statements
    (map (λ (o : Origin × Lit). plain_said table (rule children o.0)) c.as_slice-2.result.now))
    (c.as_slice.ensures.value ∙ c.in_ok-children.ensures ∙ ap (children_of table) c.as_str.ensures)
    ∙ ap (λ (os : List (Origin × Lit)). all_statements (map (λ o. plain_said table (rule (children_of table name) o.0)) os))
    c.as_slice-2.ensures
    ∙ ap all_statements (map-map (λ (o : Origin). plain_said table (rule (children_of table name) o)) (λ (o : Origin × Lit). o.0) origins)
    ∙ sym (each-said (word_said no_paths table) (rule (children_of table name)) (choice_values origins))) c.origins_formula.ensures
