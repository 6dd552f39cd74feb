use Rattle.std.proofs.Common.{◌≡◌, ◌+◌, ◌*◌, false, drop}
use Rattle.clause_formulas.specs.Statements.{any_statement, weight}
use Rattle.clause_formulas.specs.Gated.{gated}
use Rattle.clause_formulas.specs.Built.{assert_in}
use Rattle.clause_formulas.specs.Allowed.{AllowsIn}
use Rattle.clause_formulas.proofs.AllowLaws.{claims}
use Rattle.clause_formulas.proofs.claims.+claim.Given as goal

abbrev pub invariant-claim_any-loop-part : goal.invariant-claim_any-loop-part
invariant-claim_any-loop-part l = record {
  rest : assert_in l.label (gated l.clauses l.gates) false (any_statement (drop l.part-index l.parts))
      ≡ assert_in l.label (gated l.fn.clauses l.fn.gates) false (any_statement l.parts);
  allows : AllowsIn (gated l.fn.clauses l.fn.gates) (gated l.clauses l.gates) (claims l.label false (any_statement l.parts));
}

abbrev pub decreases-claim : goal.decreases-claim
decreases-claim l = 2 * weight l.formula.now + 1

abbrev pub decreases-claim_any : goal.decreases-claim_any
decreases-claim_any l = 2 * weight (any_statement l.parts.now)
