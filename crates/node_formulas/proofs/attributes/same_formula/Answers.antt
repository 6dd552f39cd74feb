use Rattle.graph_formulas.specs.Kept.{same_rule}
use Rattle.word_formulas.specs.Builders.{plain_said}
use Rattle.word_formulas.proofs.Steps.{ok-same}
use Rattle.node_formulas.proofs.Same.{same-steps}
use Rattle.node_formulas.proofs.attributes.same_formula.Goals as goal

pub returns : goal.returns
returns c = ok-same c.place_is.result _ (plain_said c.args.table.now (same_rule c.args.name.now c.args.node.now))
    (same-steps c.args.table.now c.args.name.now c.args.node.now c.as_str.result.now c.text.result.now c.as_slice.result.now
    c.as_str-2.result.now c.as_str-3.result.now
    c.in_ok-software.software c.in_ok-system.system c.as_str.ensures c.text.ensures.text c.as_slice.ensures c.as_str-2.ensures
    c.as_str-3.ensures
    c.in_ok-software.ensures c.in_ok-system.ensures) c.place_is.ensures
