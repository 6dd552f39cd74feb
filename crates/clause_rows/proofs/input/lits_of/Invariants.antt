use Rattle.clause_store.specs.Lits.{AllBelow}
use Rattle.clause_rows.proofs.input.lits_of.Given as goal

abbrev pub invariant-loop-word : goal.invariant-loop-word
invariant-loop-word l = AllBelow l.vars l.lits.items
