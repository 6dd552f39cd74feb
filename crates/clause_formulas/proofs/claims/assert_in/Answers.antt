use Rattle.std.proofs.lemmas.Result.{on_ok_weaker}
use Rattle.clause_formulas.specs.Gated.{gated}
use Rattle.clause_formulas.proofs.CallSteps.{assert_at}
use Rattle.clause_formulas.proofs.claims.assert_in.Goals as goal

pub returns-clause-says : goal.returns-clause-says
returns-clause-says c = on_ok_weaker c.claim.result (assert_at (gated c.args.clauses.now c.args.gates.now) _ c.args.label c.args.formula.now
    c.requires.gates_below c.requires.formula_below) c.claim.ensures.built
