-- What a search finds is best.
use Rattle.std.proofs.Common.{ℕ, List}
use Rattle.clause_store.specs.declared.Lit.{Lit}
use Rattle.clause_store.specs.Clauses.{Clauses, clauses_of}
use Rattle.proof_log.specs.Known.{AllClauses}
use Rattle.proof_log.specs.Certificates.{bits_at}
use Rattle.proof_log.proofs.Optimal.{certificate_least, refutation_none}
use Rattle.proof_log.proofs.SpentLaws.{spent_budget}
use Rattle.clause_solver.specs.Models.{values_in}
use Rattle.optimum_search.specs.declared.found.Found.{Found}
use Rattle.optimum_search.specs.declared.found.Found.TheVariants.{Optimal, Refuted, Spent}
use Rattle.optimum_search.specs.Finding.{IsFound, IsBest}
use Rattle.clause_store.proofs.Entries.{Meets-all}

-- no assignment has smaller bits than what was found
pub best : (s : Clauses) (bits : List Lit) (budget : ℕ) (found : Found) → AllClauses (clauses_of s.entries) → IsFound s bits budget found
    → IsBest s bits budget found
best s bits budget (Optimal model log) i f =
    λ v m b. certificate_least s.vars (clauses_of s.entries) bits (bits_at (values_in model) bits) log v i f.2
    ((Meets-all v s.entries).0 m) b
best s bits budget (Refuted log) i f = λ v m. refutation_none s.vars (clauses_of s.entries) bits log v i f.0 ((Meets-all v s.entries).0 m)
best s bits budget (Spent log) i f = spent_budget s.vars (clauses_of s.entries) bits budget log f
