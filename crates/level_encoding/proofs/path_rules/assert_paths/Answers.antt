use Rattle.std.proofs.Common.{arith}
use Rattle.clause_formulas.proofs.AllowLaws.{Allows-refl, Allows-then}
use Rattle.level_encoding.proofs.OpenLaws.{same-kept}
use Rattle.level_encoding.proofs.RuleLaws.{target_rules_so_far}
use Rattle.level_encoding.proofs.path_rules.assert_paths.Goals as goal

pub loop-q-init : goal.loop-q-init
loop-q-init c = record { so_far = grind (arith, target_rules_so_far); more = omega arith; allows = Allows-refl c.args.clauses.now _ }

pub loop-q-preserved : goal.loop-q-preserved
loop-q-preserved c = record {
  so_far = grind (arith, target_rules_so_far);
  more = omega (arith, c.loop-q.invariant.more, c.in_ok-assert_target.ensures.more);
  allows = Allows-then _ _ _ _ _ c.loop-q.invariant.allows c.assert_target.ensures.allows
      (same-kept c.args.input.now c.args.clauses.now.vars c.requires.right c.requires.made);
}

pub returns-in_err-assert_target-clause-allows : goal.returns-in_err-assert_target-clause-allows
returns-in_err-assert_target-clause-allows c =
    Allows-then _ _ _ _ _ c.loop-q.invariant.allows c.assert_target.ensures.allows
    (same-kept c.args.input.now c.args.clauses.now.vars c.requires.right c.requires.made)
