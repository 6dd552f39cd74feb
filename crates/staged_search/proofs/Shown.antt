-- What is found where a model and a log are right.
use Rattle.std.proofs.Common.{◌≡◌, ℕ, ◌≤◌, Bool, List, length, subst}
use Rattle.clause_store.specs.declared.Lit.{Lit}
use Rattle.clause_store.specs.Clauses.{Clauses, clauses_of}
use Rattle.proof_log.specs.declared.line.Line.{Line}
use Rattle.proof_log.specs.Lines.{learnt_in}
use Rattle.proof_log.specs.Certificates.{MeetsAll, AreOver, IsCertificate, bits_at}
use Rattle.clause_solver.specs.Models.{values_in}
use Rattle.optimum_search.specs.Finding.{IsFound}
use Rattle.optimum_search.specs.declared.found.Found.TheVariants.{Optimal}

pub found-of : (s : Clauses) (bits : List Lit) (budget : ℕ) (model values : List Bool) (lines : List Line) → length model ≡ s.vars
    → MeetsAll (values_in model) s → values ≡ bits_at (values_in model) bits → AreOver s.vars lines → learnt_in lines ≤ budget
    → IsCertificate s.vars (clauses_of s.entries) bits values lines → IsFound s bits budget (Optimal model lines)
found-of s bits budget model values lines whole meets same over within shown =
    (whole, meets, subst (λ v. IsCertificate s.vars (clauses_of s.entries) bits v lines) same shown, over, within)
