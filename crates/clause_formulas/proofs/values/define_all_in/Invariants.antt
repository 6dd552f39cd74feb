use Rattle.std.proofs.Common.{◌≡◌, drop}
use Rattle.clause_formulas.specs.Gated.{gated, Keeps}
use Rattle.clause_formulas.specs.Built.{define_all_in}
use Rattle.clause_formulas.proofs.CallSteps.{after}
use Rattle.clause_formulas.proofs.values.define_all_in.Given as goal

abbrev pub invariant-loop-formula : goal.invariant-loop-formula
invariant-loop-formula l = record {
  rest : after l.values.items (define_all_in (gated l.clauses l.gates) (drop l.formula-index l.formulas))
      ≡ define_all_in (gated l.fn.clauses l.fn.gates) l.formulas;
  keeps : Keeps (gated l.fn.clauses l.fn.gates) (gated l.clauses l.gates);
}
