use Rattle.std.proofs.Common.{◌+◌, ap, ◌∙◌, arith}
use Rattle.std.specs.List.{sum_by}
use Rattle.level_encoding.specs.Asserted.{assert_all}
use Rattle.level_encoding.specs.Encoding.{turns, turn_start, arcs_rules}
use Rattle.clause_formulas.proofs.AllowLaws.{Allows-refl, Allows-then}
use Rattle.level_encoding.proofs.OpenLaws.{arcs-kept, arcs-left, arc-open}
use Rattle.level_encoding.proofs.RuleLaws.{arcs_rules-all, arcs_rules-step, turns-step, arc-below-at, end-is}
use Rattle.level_encoding.proofs.arc_rules.assert_arcs.Goals as goal

pub assert_arc-requires-clause-below : goal.assert_arc-requires-clause-below
assert_arc-requires-clause-below c =
    arc-below-at c.args.input.now c.requires.right c.loop-arc.turn c.loop-arc.arc-index c.arcs-arc-items.result.now _
    c.loop-arc.clauses.vars c.arcs-arc-items.ensures c.loop-arc-test.true c.loop-arc.invariant.turns_left
    (omega (arith, c.loop-arc.invariant.more))

pub loop-arc-init : goal.loop-arc-init
loop-arc-init c =
    let s = c.args.input.now in
    let arcs = c.arcs-arc-items.result.now in record {
      rest = ap (λ x. assert_all c.args.clauses.now (arcs_rules s x arcs)) c.requires.plan.turns;
      turns_left = ap (λ x. x + sum_by (turns s) arcs) c.requires.plan.turns
          ∙ ap (λ xs. turn_start s + sum_by (turns s) xs) c.arcs-arc-items.ensures ∙ end-is s;
      more = omega arith;
      left = arcs-kept s _ arcs c.requires.plan.turns c.arcs-arc-items.ensures;
      allows = Allows-refl c.args.clauses.now _;
    }

pub loop-arc-preserved : goal.loop-arc-preserved
loop-arc-preserved c =
    let s = c.args.input.now in
    let arcs = c.arcs-arc-items.result.now in record {
      rest = arcs_rules-step s c.loop-arc.turn c.turns.result c.loop-arc.arc-index arcs _ c.loop-arc.clauses _ _ c.loop-arc-test.true
          c.in_ok-assert_arc.ensures.built c.turns.ensures c.loop-arc.invariant.rest;
      turns_left = turns-step s c.loop-arc.turn c.turns.result c.loop-arc.arc-index arcs _ c.loop-arc-test.true c.turns.ensures
          c.loop-arc.invariant.turns_left;
      more = omega (arith, c.loop-arc.invariant.more, c.in_ok-assert_arc.ensures.more);
      left = arcs-left s c.loop-arc.turn c.turns.result c.loop-arc.arc-index arcs _ c.loop-arc-test.true c.turns.ensures
          c.loop-arc.invariant.left;
      allows =
          Allows-then _ _ _ _ _ c.loop-arc.invariant.allows c.assert_arc.ensures.allows
          (arc-open c.args.input.now c.args.clauses.now.vars c.loop-arc.turn c.loop-arc.arc-index c.arcs-arc-items.result.now _
          c.requires.right
          c.requires.made c.loop-arc-test.true c.loop-arc.invariant.left);
    }

pub returns-clause-built : goal.returns-clause-built
returns-clause-built c =
    let s = c.args.input.now in
    arcs_rules-all s c.loop-arc.turn c.loop-arc.arc-index c.arcs-arc-items.result.now c.loop-arc.clauses _ c.loop-arc-test.false
    c.loop-arc.invariant.rest
    ∙ ap (λ xs. assert_all c.args.clauses.now (arcs_rules s (turn_start s) xs)) c.arcs-arc-items.ensures

pub returns-in_err-assert_arc-clause-allows : goal.returns-in_err-assert_arc-clause-allows
returns-in_err-assert_arc-clause-allows c =
    Allows-then _ _ _ _ _ c.loop-arc.invariant.allows c.assert_arc.ensures.allows
    (arc-open c.args.input.now c.args.clauses.now.vars c.loop-arc.turn c.loop-arc.arc-index c.arcs-arc-items.result.now _ c.requires.right
    c.requires.made c.loop-arc-test.true c.loop-arc.invariant.left)
