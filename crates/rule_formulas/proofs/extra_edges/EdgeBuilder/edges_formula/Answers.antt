use Rattle.std.proofs.Common.{rules, ap, ◌∙◌, map, filter, List}
use Rattle.std.specs.Str.{bytes_eq}
use Rattle.clause_formulas.specs.Statements.{all_statements}
use Rattle.graph_core.specs.Graphs.{Text}
use Rattle.literal_table.specs.declared.block.EdgeLits.{EdgeLits}
use Rattle.literal_table.specs.Tables.{children_of}
use Rattle.word_formulas.proofs.Steps.{ok-same}
use Rattle.rule_formulas.specs.Asking.{extra_edge_said}
use Rattle.rule_formulas.proofs.Lists.{over-mapped}
use Rattle.rule_formulas.proofs.extra_edges.EdgeBuilder.edges_formula.Goals as goal

pub returns : goal.returns
returns g c =
    let table = c.args.self.now.scribe.table.now in
    let problem = c.args.self.now.problem.now in
    let condition = g.C.MetConditions.condition_of c.args.self.now.conditions.now in
    let rows = c.args.self.now.rows.now in
    let name = c.args.self.now.name.now in
    let p = λ (e : EdgeLits). bytes_eq e.parent name in
    let child = λ (e : EdgeLits). e.child in
    let said = λ (n : Text). extra_edge_said problem table condition rows c.args.self.now.named.now name n in
    let formula = λ (e : EdgeLits). extra_edge_said problem table condition rows c.args.self.now.named.now name e.child in
    ok-same c.each_where.result (all_statements (map formula (filter p c.edges.result.now)))
    (all_statements (map said (children_of table name)))
    (ap (λ (l : List EdgeLits). all_statements (map formula (filter p l))) c.edges.ensures.edges
    ∙ ap all_statements (over-mapped said child (filter p table.edges)))
    (c.each_where.ensures p formula (λ x b says. search rules) (λ x r says. search rules))
