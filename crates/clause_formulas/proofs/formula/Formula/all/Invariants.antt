use Rattle.std.proofs.Common.{◌≡◌, ◌++◌, map}
use Rattle.clause_formulas.specs.Statements.{opposite}
use Rattle.clause_formulas.proofs.formula.Formula.all.Given as goal

abbrev pub invariant-loop-part : goal.invariant-loop-part
invariant-loop-part l = record {
  so_far : l.negated.items ≡ map opposite l.yielded;
  rest : l.yielded ++ l.part-iterator.rest.items ≡ l.fn.parts.items;
}
