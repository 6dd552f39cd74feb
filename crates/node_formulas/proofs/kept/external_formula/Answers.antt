use Rattle.std.proofs.Common.{ap, ◌∙◌}
use Rattle.clause_formulas.specs.Rules.{fact, isnt}
use Rattle.graph_core.specs.Graphs.{Text, no_kinds}
use Rattle.graph_core.specs.declared.node.Origin.TheVariants.{External}
use Rattle.graph_formulas.specs.Facts.{has_edge}
use Rattle.graph_formulas.specs.Lists.{each_keeps}
use Rattle.graph_formulas.specs.Kept.{origin_rule}
use Rattle.word_formulas.specs.Builders.{plain_said}
use Rattle.word_formulas.proofs.Steps.{ok-same, both-same}
use Rattle.node_formulas.proofs.kept.external_formula.Goals as goal

pub returns : goal.returns
returns c =
    let table = c.args.table.now in
    let alone = λ (n : Text). plain_said table (each_keeps (λ child. isnt (fact (has_edge n child no_kinds))) c.args.children.now) in
    ok-same c.both.result _ (plain_said table (origin_rule c.args.problem.now c.args.children.now c.args.name.now (External c.args.place)))
    (both-same _ _ _ _ c.in_ok-listed.ensures (c.in_ok-alone.ensures ∙ ap alone c.as_str.ensures)) c.both.ensures
