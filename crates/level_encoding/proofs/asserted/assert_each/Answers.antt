use Rattle.std.proofs.Common.{refl, sym, arith}
use Rattle.clause_formulas.proofs.SpreadSteps.{SaidBelow-at}
use Rattle.clause_formulas.proofs.AllowLaws.{Allows-refl, Allows-then}
use Rattle.level_encoding.proofs.AssertedLaws.{each-step, each-all}
use Rattle.level_encoding.proofs.OpenLaws.{each-open}
use Rattle.level_encoding.proofs.asserted.assert_each.Goals as goal

pub assert-requires : goal.assert-requires
assert-requires c = SaidBelow-at c.args.clauses.now.vars c.loop-formula.clauses.vars c.args.formulas.now c.loop-formula.formula-index
    c.formula-item.result c.loop-formula.invariant.more (omega arith) c.formula-item.is c.requires

pub loop-formula-preserved : goal.loop-formula-preserved
loop-formula-preserved c = record {
  rest = each-step c.loop-formula.clauses _ _ c.args.formulas.now c.loop-formula.formula-index c.formula-item.result
      c.loop-formula-test.true c.formula-item.is (sym c.in_ok-assert.ensures.built) c.loop-formula.invariant.rest;
  more = omega (arith, c.loop-formula.invariant.more, c.in_ok-assert.ensures.says.grows.more);
  allows = Allows-then _ _ _ _ _ c.loop-formula.invariant.allows c.assert.ensures.allows
      (each-open c.args.clauses.now.vars c.args.formulas.now c.loop-formula.formula-index c.formula-item.result c.loop-formula-test.true
      c.formula-item.is c.requires);
}

pub returns-clause-built : goal.returns-clause-built
returns-clause-built c = each-all c.loop-formula.clauses _ c.args.formulas.now c.loop-formula.formula-index c.loop-formula-test.false
    c.loop-formula.invariant.rest

pub loop-formula-init : goal.loop-formula-init
loop-formula-init c = record { rest = refl; more = omega arith; allows = Allows-refl c.args.clauses.now _ }

pub returns-in_err-assert-clause-allows : goal.returns-in_err-assert-clause-allows
returns-in_err-assert-clause-allows c =
    Allows-then _ _ _ _ _ c.loop-formula.invariant.allows c.assert.ensures.allows
    (each-open c.args.clauses.now.vars c.args.formulas.now c.loop-formula.formula-index c.formula-item.result c.loop-formula-test.true
    c.formula-item.is c.requires)
