use Rattle.std.proofs.Common.{ap, ◌∙◌}
use Rattle.clause_formulas.specs.Rules.{fact, isnt}
use Rattle.clause_formulas.specs.Statements.{opposite}
use Rattle.graph_core.specs.Graphs.{Text, no_kinds}
use Rattle.graph_core.specs.declared.node.Kinds.{Kinds}
use Rattle.graph_formulas.specs.Facts.{has_edge}
use Rattle.word_formulas.specs.Builders.{plain_said}
use Rattle.node_formulas.proofs.kept.no_edge.Goals as goal

pub returns : goal.returns
returns c =
    let said = λ (n : Text) (k : Kinds). plain_said c.args.table.now (isnt (fact (has_edge c.args.name.now n k))) in
    c.negated.ensures ∙ ap opposite c.in_ok-edge.ensures ∙ ap (said c.as_str.result.now) c.no_kinds.ensures
    ∙ ap (λ (n : Text). said n no_kinds) c.as_str.ensures
