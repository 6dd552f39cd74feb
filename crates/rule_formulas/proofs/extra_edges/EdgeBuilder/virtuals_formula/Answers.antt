use Rattle.std.proofs.Common.{rules, sym, ap, ◌∙◌, map, List}
use Rattle.clause_formulas.specs.Statements.{all_statements}
use Rattle.clause_store.specs.declared.Lit.{Lit}
use Rattle.graph_core.specs.Graphs.{Text}
use Rattle.literal_table.specs.Tables.{edge_virtuals}
use Rattle.graph_formulas.specs.Edges.{virtual_rule}
use Rattle.graph_formulas.specs.Laws.{virtuals_on}
use Rattle.graph_formulas.specs.Lists.{each_keeps}
use Rattle.graph_formulas.specs.Terms.{term_said}
use Rattle.graph_formulas.specs.Words.{names_for}
use Rattle.word_formulas.specs.Builders.{no_paths}
use Rattle.word_formulas.proofs.Steps.{ok-same, each-said}
use Rattle.rule_formulas.specs.Terms.{plain_term}
use Rattle.rule_formulas.proofs.Lists.{over-mapped}
use Rattle.rule_formulas.proofs.extra_edges.EdgeBuilder.virtuals_formula.Goals as goal

pub returns : goal.returns
returns g c =
    let table = c.args.self.now.scribe.table.now in
    let problem = c.args.self.now.named.now.0 in
    let name = c.args.self.now.named.now.1 in
    let condition = g.C.MetConditions.condition_of c.args.self.now.conditions.now in
    let child = c.args.child.now in
    let rule = λ (n : Text). virtual_rule problem (names_for table) name child n in
    let said = λ (n : Text). plain_term table condition (virtual_rule problem (names_for table) name child n) in
    let formula = λ (choice : Text × Lit). plain_term table condition (virtual_rule problem (names_for table) name child choice.0) in
    let first = λ (choice : Text × Lit). choice.0 in
    ok-same c.each.result (all_statements (map formula c.virtuals-virtuals.result.now))
    (plain_term table condition (each_keeps rule (virtuals_on table name child)))
    (ap (λ (l : List (Text × Lit)). all_statements (map formula l))
    (c.virtuals-virtuals.ensures ∙ ap (λ (n : Text). edge_virtuals table n child) c.name.ensures)
    ∙ ap all_statements (over-mapped said first (edge_virtuals table name child))
    ∙ sym (each-said (term_said no_paths condition table) rule (virtuals_on table name child)))
    (c.each.ensures formula (λ x r says. search rules))
