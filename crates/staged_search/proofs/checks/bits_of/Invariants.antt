use Rattle.std.proofs.Common.{◌≡◌, ◌++◌, drop}
use Rattle.clause_solver.specs.Models.{values_in}
use Rattle.proof_log.specs.Certificates.{bits_at}
use Rattle.staged_search.proofs.checks.bits_of.Given as goal

abbrev pub invariant-loop-lit : goal.invariant-loop-lit
invariant-loop-lit l = l.values.items ++ bits_at (values_in l.model) (drop l.lit-index l.bits) ≡ bits_at (values_in l.model) l.bits
