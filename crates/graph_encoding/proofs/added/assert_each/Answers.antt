use Rattle.std.proofs.Common.{sym, arith}
use Rattle.clause_formulas.proofs.SpreadSteps.{SaidBelow-at}
use Rattle.level_encoding.proofs.AssertedLaws.{each-step, each-all}
use Rattle.graph_encoding.proofs.added.assert_each.Goals as goal

pub assert-requires : goal.assert-requires
assert-requires c = SaidBelow-at c.args.clauses.now.vars c.loop-formula.clauses.vars c.args.formulas.now c.loop-formula.formula-index
    c.formula-item.result c.loop-formula.invariant.more (omega arith) c.formula-item.is c.requires

pub loop-formula-preserved : goal.loop-formula-preserved
loop-formula-preserved c = record {
  rest = each-step c.loop-formula.clauses _ _ c.args.formulas.now c.loop-formula.formula-index c.formula-item.result
      c.loop-formula-test.true c.formula-item.is (sym c.in_ok-assert.ensures.built) c.loop-formula.invariant.rest;
  more = omega (arith, c.loop-formula.invariant.more, c.in_ok-assert.ensures.says.grows.more);
}

pub returns-clause-built : goal.returns-clause-built
returns-clause-built c = each-all c.loop-formula.clauses _ c.args.formulas.now c.loop-formula.formula-index c.loop-formula-test.false
    c.loop-formula.invariant.rest
