-- What is found stays found with a shorter log.
use Rattle.std.proofs.Common.{◌≡◌, ℕ, Bool, List, sym, subst, arith}
use Rattle.clause_store.specs.declared.Lit.{Lit}
use Rattle.clause_store.specs.Clauses.{Clauses, clauses_of}
use Rattle.optimum_search.specs.declared.found.Found.{Found}
use Rattle.optimum_search.specs.declared.found.Found.TheVariants.{Optimal, Refuted, Spent}
use Rattle.optimum_search.specs.Finding.{IsFound}
use Rattle.proof_log.specs.declared.line.Line.{Line}
use Rattle.log_trim.specs.Trimmed.{trimmed, IsSoundLog}
use Rattle.log_trim.specs.Found.{trimmed_found}
use Rattle.log_trim.proofs.KindLaws.{certificate-trimmed, refutation-trimmed, over-trimmed, learnt-trimmed}

found-trimmed : (s : Clauses) (bits : List Lit) (budget : ℕ) (f : Found) → IsFound s bits budget f → IsFound s bits budget (trimmed_found f)
found-trimmed s bits budget (Optimal model log) h = (
  h.0,
  h.1,
  certificate-trimmed s.vars (clauses_of s.entries) bits _ log h.2,
  over-trimmed s.vars log h.3,
  omega (arith, h.4, learnt-trimmed log),
)
found-trimmed s bits budget (Refuted log) h = (
  refutation-trimmed s.vars (clauses_of s.entries) bits log h.0,
  over-trimmed s.vars log h.1,
  omega (arith, h.2, learnt-trimmed log),
)
found-trimmed s bits budget (Spent log) h = h

pub optimal-sound : (s : Clauses) (bits : List Lit) (budget : ℕ) (f : Found) (model : List Bool) (log : List Line) → f ≡ Optimal model log
    → IsFound s bits budget f → IsSoundLog log
optimal-sound s bits budget f model log e h = let k = subst (IsFound s bits budget) e h in (s.vars, clauses_of s.entries, bits, k.2.sound)

pub refuted-sound : (s : Clauses) (bits : List Lit) (budget : ℕ) (f : Found) (log : List Line) → f ≡ Refuted log
    → IsFound s bits budget f → IsSoundLog log
refuted-sound s bits budget f log e h = let k = subst (IsFound s bits budget) e h in (s.vars, clauses_of s.entries, bits, k.0.sound)

pub optimal-found : (s : Clauses) (bits : List Lit) (budget : ℕ) (f : Found) (model : List Bool) (log short : List Line)
    → f ≡ Optimal model log
    → short ≡ trimmed log → IsFound s bits budget f → IsFound s bits budget (Optimal model short)
optimal-found s bits budget f model log short e q h =
    subst (λ l. IsFound s bits budget (Optimal model l)) (sym q)
    (found-trimmed s bits budget (Optimal model log) (subst (IsFound s bits budget) e h))

pub refuted-found : (s : Clauses) (bits : List Lit) (budget : ℕ) (f : Found) (log short : List Line) → f ≡ Refuted log
    → short ≡ trimmed log → IsFound s bits budget f → IsFound s bits budget (Refuted short)
refuted-found s bits budget f log short e q h =
    subst (λ l. IsFound s bits budget (Refuted l)) (sym q) (found-trimmed s bits budget (Refuted log) (subst (IsFound s bits budget) e h))
