use Rattle.std.proofs.Common.{◌≡◌, ◌+◌, ◌*◌, drop}
use Rattle.clause_store.specs.Lits.{AllBelow}
use Rattle.clause_formulas.specs.Statements.{any_statement, weight}
use Rattle.clause_formulas.specs.Built.{ask_in}
use Rattle.clause_formulas.specs.Gated.{gated, Keeps}
use Rattle.clause_formulas.proofs.asked.+ask.Given as goal

abbrev pub invariant-ask_any-loop-part : goal.invariant-ask_any-loop-part
invariant-ask_any-loop-part l = record {
  rest : ask_in (gated l.clauses l.gates) l.draft (any_statement (drop l.part-index l.parts))
      ≡ ask_in (gated l.fn.clauses l.fn.gates) l.fn.draft
      (any_statement l.parts);
  below : AllBelow l.clauses.vars l.draft.lits;
  keeps : Keeps (gated l.fn.clauses l.fn.gates) (gated l.clauses l.gates);
}

abbrev pub decreases-ask : goal.decreases-ask
decreases-ask l = 2 * weight l.formula.now + 1

abbrev pub decreases-ask_any : goal.decreases-ask_any
decreases-ask_any l = 2 * weight (any_statement l.parts.now)
