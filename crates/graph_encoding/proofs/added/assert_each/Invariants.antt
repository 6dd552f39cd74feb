use Rattle.std.proofs.Common.{◌≡◌, ◌≤◌, drop}
use Rattle.level_encoding.specs.Asserted.{assert_all}
use Rattle.graph_encoding.proofs.added.assert_each.Given as goal

abbrev pub invariant-loop-formula : goal.invariant-loop-formula
invariant-loop-formula l = record {
  rest : assert_all l.clauses (drop l.formula-index l.formulas) ≡ assert_all l.fn.clauses l.formulas;
  more : l.fn.clauses.vars ≤ l.clauses.vars;
}
