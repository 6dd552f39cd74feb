use Rattle.std.proofs.Common.{◌≡◌, drop}
use Rattle.clause_formulas.specs.Gated.{gated, Keeps}
use Rattle.cost_terms.specs.Weighed.{terms_in}
use Rattle.cost_terms.proofs.Steps.{after}
use Rattle.cost_terms.proofs.totals.terms_of.Given as goal

abbrev pub invariant-loop-one : goal.invariant-loop-one
invariant-loop-one l = record {
  rest : after l.terms.items (terms_in (gated l.clauses l.gates) (drop l.one-index l.weighted)) ≡ terms_in (gated l.fn.clauses l.fn.gates)
      l.fn.weighted;
  keeps : Keeps (gated l.fn.clauses l.fn.gates) (gated l.clauses l.gates);
}
