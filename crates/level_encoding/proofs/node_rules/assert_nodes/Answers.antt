use Rattle.std.proofs.Common.{arith}
use Rattle.clause_formulas.proofs.AllowLaws.{Allows-refl, Allows-then}
use Rattle.level_encoding.proofs.OpenLaws.{node-open}
use Rattle.level_encoding.proofs.RuleLaws.{node_rules_so_far}
use Rattle.level_encoding.proofs.node_rules.assert_nodes.Goals as goal

pub loop-i-init : goal.loop-i-init
loop-i-init c = record { so_far = grind (arith, node_rules_so_far); more = omega arith; allows = Allows-refl c.args.clauses.now _ }

pub loop-i-preserved : goal.loop-i-preserved
loop-i-preserved c = record {
  so_far = grind (arith, node_rules_so_far);
  more = omega (arith, c.loop-i.invariant.more, c.in_ok-assert_node.ensures.more);
  allows = Allows-then _ _ _ _ _ c.loop-i.invariant.allows c.assert_node.ensures.allows
      (node-open c.args.input.now c.args.clauses.now.vars c.loop-i.i c.requires.right c.requires.made
      (omega (arith, c.loop-i-test.true, c.size-i-end.ensures)));
}

pub returns-in_err-assert_node-clause-allows : goal.returns-in_err-assert_node-clause-allows
returns-in_err-assert_node-clause-allows c =
    Allows-then _ _ _ _ _ c.loop-i.invariant.allows c.assert_node.ensures.allows
    (node-open c.args.input.now c.args.clauses.now.vars c.loop-i.i c.requires.right c.requires.made
    (omega (arith, c.loop-i-test.true, c.size-i-end.ensures)))
