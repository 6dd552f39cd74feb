use Rattle.std.proofs.Common.{rules}
use Rattle.clause_store.specs.declared.Lit.{Lit}
use Rattle.clause_formulas.specs.Rules.{fact, if_so}
use Rattle.graph_core.specs.declared.node.Origin.{Origin}
use Rattle.graph_formulas.specs.Facts.{has_origin, node_has}
use Rattle.graph_formulas.specs.Kept.{origin_rule}
use Rattle.problem.specs.Nodes.{same_origin}
use Rattle.word_formulas.specs.Builders.{plain_said}
use Rattle.node_formulas.proofs.kept_rows.origins_formula.Goals as goal

pub returns : goal.returns
returns c = c.each.ensures
    (λ (o : Origin × Lit). plain_said c.args.table.now
    (if_so (fact (node_has c.args.name.now (has_origin (same_origin o.0))))
    (origin_rule c.args.problem.now c.args.children.now c.args.name.now o.0)))
    (λ x r says. search rules)
