use Rattle.clause_store.specs.Clauses.{clauses_of}
use Rattle.optimum_search.specs.Finding.{IsSearching, IsOver}
use Rattle.optimum_search.proofs.descent.search_by_numbers.Given as goal

abbrev pub invariant-loop-at : goal.invariant-loop-at
invariant-loop-at g l = record {
  over : IsOver (clauses_of l.clauses.entries) l.clauses.vars l.solver;
  searching : IsSearching l.bits l.budget l.at l.solver;
}
