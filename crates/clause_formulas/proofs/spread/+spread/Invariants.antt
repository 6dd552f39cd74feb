use Rattle.std.proofs.Common.{◌≡◌, ◌+◌, ◌*◌, drop}
use Rattle.clause_store.specs.Lits.{AllBelow}
use Rattle.clause_formulas.specs.Statements.{any_statement, weight}
use Rattle.clause_formulas.specs.Built.{spread_in}
use Rattle.clause_formulas.specs.Gated.{gated, Keeps}
use Rattle.clause_formulas.proofs.spread.+spread.Given as goal

abbrev pub invariant-spread_any-loop-part : goal.invariant-spread_any-loop-part
invariant-spread_any-loop-part l = record {
  rest : spread_in (gated l.clauses l.gates) l.draft (any_statement (drop l.part-index l.parts)) ≡ spread_in (gated l.fn.clauses l.fn.gates)
      l.fn.draft (any_statement l.parts);
  below : AllBelow l.clauses.vars l.draft.lits;
  keeps : Keeps (gated l.fn.clauses l.fn.gates) (gated l.clauses l.gates);
}

abbrev pub decreases-spread : goal.decreases-spread
decreases-spread l = 2 * weight l.formula.now + 1

abbrev pub decreases-spread_any : goal.decreases-spread_any
decreases-spread_any l = 2 * weight (any_statement l.parts.now)
