use Rattle.std.proofs.Common.{rules, refl}
use Rattle.clause_formulas.specs.Statements.{implication_of}
use Rattle.graph_formulas.specs.Facts.{has_origin}
use Rattle.problem.specs.Nodes.{builds}
use Rattle.word_formulas.specs.Builders.{node_said}
use Rattle.word_formulas.proofs.Steps.{ok-same, ok-is, implies-same}
use Rattle.word_formulas.proofs.scribe.Scribe.where_built.Goals as goal

pub returns : goal.returns
returns c =
    let built = ok-is c.origin_passes.result c.in_ok-built.built (node_said c.args.self.now.table.now c.args.name.now (has_origin builds))
    c.in_ok-built.was
    (c.origin_passes.ensures builds (λ x b says. search rules)) in
    ok-same c.implies.result _ (implication_of (node_said c.args.self.now.table.now c.args.name.now (has_origin builds)) c.args.rule)
    (implies-same _ _ _ _ built refl) c.implies.ensures
