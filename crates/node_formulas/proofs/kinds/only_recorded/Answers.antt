use Rattle.std.proofs.Common.{◌∙◌}
use Rattle.clause_formulas.specs.Rules.{fact, if_so}
use Rattle.graph_formulas.specs.Facts.{word_said, has_edge}
use Rattle.graph_formulas.specs.Lists.{settled_test}
use Rattle.word_formulas.specs.Builders.{no_paths, plain_said}
use Rattle.word_formulas.proofs.Steps.{ok-same, given-said, implies-same}
use Rattle.node_formulas.proofs.kinds.only_recorded.Goals as goal

pub returns : goal.returns
returns c =
    let table = c.args.table.now in
    ok-same c.implies.result _ (plain_said table
    (if_so (fact (has_edge c.args.name.now c.args.child.now c.args.kind.now)) (settled_test c.args.recorded)))
    (implies-same _ _ _ _ c.in_ok-edge.ensures (c.given-known.ensures ∙ given-said (word_said no_paths table) c.args.recorded))
    c.implies.ensures
