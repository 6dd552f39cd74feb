use Rattle.std.proofs.Common.{◌≡◌, drop}
use Rattle.clause_store.specs.Lits.{clause_true}
use Rattle.clause_solver.specs.Models.{values_in}
use Rattle.staged_search.proofs.checks.is_met.Given as goal

abbrev pub invariant-loop-lit : goal.invariant-loop-lit
invariant-loop-lit l = clause_true (values_in l.model) (drop l.lit-index l.lits) ≡ clause_true (values_in l.model) l.lits
