use Rattle.std.proofs.Common.{◌≡◌, ◌≤◌, drop}
use Rattle.clause_formulas.specs.Allowed.{Allows}
use Rattle.level_encoding.specs.Composed.{Meets}
use Rattle.level_encoding.specs.Asserted.{assert_all}
use Rattle.level_encoding.proofs.asserted.assert_each.Given as goal

abbrev pub invariant-loop-formula : goal.invariant-loop-formula
invariant-loop-formula l = record {
  rest : assert_all l.clauses (drop l.formula-index l.formulas) ≡ assert_all l.fn.clauses l.formulas;
  more : l.fn.clauses.vars ≤ l.clauses.vars;
  allows : Allows l.fn.clauses l.clauses (λ asked v. Meets v l.formulas);
}
