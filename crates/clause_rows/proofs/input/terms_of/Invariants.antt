use Rattle.clause_circuits.specs.Trees.{TermsBelow}
use Rattle.clause_rows.proofs.input.terms_of.Given as goal

abbrev pub invariant-loop-word : goal.invariant-loop-word
invariant-loop-word l = TermsBelow l.vars l.terms.items
