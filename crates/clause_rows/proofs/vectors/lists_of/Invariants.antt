use Rattle.criteria_totals.specs.Totals.{AllTermsBelow, tops}
use Rattle.criteria_totals.specs.Spellings.{AllSmall}
use Rattle.clause_rows.proofs.vectors.lists_of.Given as goal

abbrev pub invariant-loop-word : goal.invariant-loop-word
invariant-loop-word l = AllTermsBelow l.vars l.lists.items × AllSmall (tops l.lists.items)
