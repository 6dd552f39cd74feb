use Rattle.std.proofs.Common.{◌≡◌, true, drop}
use Rattle.clause_formulas.specs.Gated.{gated}
use Rattle.clause_formulas.specs.Built.{demand_all_in, demands_true}
use Rattle.clause_formulas.specs.Allowed.{AllowsIn}
use Rattle.clause_formulas.proofs.claims.demand_all_in.Given as goal

abbrev pub invariant-loop-i : goal.invariant-loop-i
invariant-loop-i l = record {
  rest : demand_all_in (gated l.clauses l.gates) l.i (drop l.i l.formulas) ≡ demand_all_in (gated l.fn.clauses l.fn.gates) 0 l.formulas;
  allows : AllowsIn (gated l.fn.clauses l.fn.gates) (gated l.clauses l.gates) (λ asked v. demands_true asked v 0 l.formulas ≡ true);
}
