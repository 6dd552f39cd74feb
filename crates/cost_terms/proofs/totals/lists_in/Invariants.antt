use Rattle.std.proofs.Common.{◌≡◌, drop}
use Rattle.clause_formulas.specs.Gated.{gated, Keeps}
use Rattle.cost_terms.specs.Weighed.{lists_in}
use Rattle.cost_terms.proofs.Steps.{after}
use Rattle.cost_terms.proofs.totals.lists_in.Given as goal

abbrev pub invariant-loop-list : goal.invariant-loop-list
invariant-loop-list l = record {
  rest : after l.terms.items (lists_in (gated l.clauses l.gates) (drop l.list-index l.lists))
      ≡ lists_in (gated l.fn.clauses l.fn.gates) l.fn.lists;
  keeps : Keeps (gated l.fn.clauses l.fn.gates) (gated l.clauses l.gates);
}
