use Rattle.std.proofs.Common.{rules, ap, ◌∙◌}
use Rattle.clause_formulas.specs.Rules.{fact, if_so}
use Rattle.graph_core.specs.Graphs.{Text}
use Rattle.graph_formulas.specs.Facts.{has_origin, node_has}
use Rattle.graph_formulas.specs.Kept.{origin_rule}
use Rattle.problem.specs.Nodes.{same_origin}
use Rattle.word_formulas.specs.Builders.{node_said, plain_said}
use Rattle.word_formulas.proofs.Steps.{ok-same, ok-is, implies-same}
use Rattle.node_formulas.proofs.kept_rows.origin_at.Goals as goal

pub returns : goal.returns
returns c =
    let table = c.args.table.now in
    let name = c.args.name.now in
    let origin = c.args.choice.now.0 in
    let has = ok-is c.origin_passes.result c.in_ok-has.has (node_said table c.as_str.result.now (has_origin (same_origin origin)))
    c.in_ok-has.was
    (c.origin_passes.ensures (same_origin origin) (λ x b says. search rules))
    ∙ ap (λ (n : Text). node_said table n (has_origin (same_origin origin))) c.as_str.ensures in
    ok-same c.implies.result _
    (plain_said table (if_so (fact (node_has name (has_origin (same_origin origin))))
    (origin_rule c.args.problem.now c.args.children.now name origin)))
    (implies-same _ _ _ _ has c.in_ok-asked.ensures) c.implies.ensures
