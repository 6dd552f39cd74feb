use Rattle.std.proofs.lemmas.Result.{on_ok_weaker}
use Rattle.clause_formulas.proofs.CallSteps.{assert-alone, assert_at-alone, allows-alone}
use Rattle.clause_formulas.proofs.claims.assert.Goals as goal

pub assert_in-requires : goal.assert_in-requires
assert_in-requires c = record { formula_below = c.requires; gates_below = c.new-gates.ensures.below _ }

pub returns-clause-built : goal.returns-clause-built
returns-clause-built c = on_ok_weaker c.assert_in.result (assert-alone c.args.clauses.now _ c.new-gates.result _ c.args.label
    c.args.formula.now c.new-gates.ensures.value) c.assert_in.ensures.built

pub returns-clause-says : goal.returns-clause-says
returns-clause-says c = on_ok_weaker c.assert_in.result (assert_at-alone c.args.clauses.now _ c.args.label c.args.formula.now c.requires)
    (returns-clause-built c)

pub returns-clause-allows : goal.returns-clause-allows
returns-clause-allows c = allows-alone c.args.clauses.now _ c.new-gates.result _ _ c.new-gates.ensures.value c.assert_in.ensures.allows
