use Rattle.std.proofs.Common.{arith}
use Rattle.clause_formulas.proofs.AllowLaws.{Allows-refl, Allows-then}
use Rattle.level_encoding.proofs.OpenLaws.{way-open}
use Rattle.level_encoding.proofs.RuleLaws.{path_rules_so_far}
use Rattle.level_encoding.proofs.path_rules.assert_target.Goals as goal

pub loop-p-init : goal.loop-p-init
loop-p-init c = record { so_far = grind (arith, path_rules_so_far); more = omega arith; allows = Allows-refl c.args.clauses.now _ }

pub loop-p-preserved : goal.loop-p-preserved
loop-p-preserved c = record {
  so_far = grind (arith, path_rules_so_far);
  more = omega (arith, c.loop-p.invariant.more, c.in_ok-assert_way.ensures.more);
  allows = Allows-then _ _ _ _ _ c.loop-p.invariant.allows c.assert_way.ensures.allows
      (way-open c.args.input.now c.args.clauses.now.vars c.args.q c.loop-p.p c.requires.right c.requires.made);
}

pub returns-in_err-assert_way-clause-allows : goal.returns-in_err-assert_way-clause-allows
returns-in_err-assert_way-clause-allows c =
    Allows-then _ _ _ _ _ c.loop-p.invariant.allows c.assert_way.ensures.allows
    (way-open c.args.input.now c.args.clauses.now.vars c.args.q c.loop-p.p c.requires.right c.requires.made)
