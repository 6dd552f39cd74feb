use Rattle.std.proofs.Common.{◌≡◌, true, Bool, ◌∙◌, subst}
use Rattle.std.proofs.lemmas.Result.{IfOk-weaker}
use Rattle.clause_store.specs.Clauses.{clauses_of}
use Rattle.proof_log.specs.Certificates.{AreOver, IsCertificate}
use Rattle.optimum_search.specs.Finding.{IsFound}
use Rattle.optimum_search.specs.declared.found.Found.TheVariants.{Optimal}
use Rattle.staged_search.proofs.Shown.{found-of}
use Rattle.staged_search.proofs.search.is_right.Goals as goal

pub returns-clause-found : goal.returns-clause-found
returns-clause-found c =
    let s = c.args.clauses.now in
    let bits = c.args.bits.now in
    let lines = c.args.lines.now in
    let found : (yes : Bool) → (yes ≡ true → IsCertificate s.vars (clauses_of s.entries) bits c.as_slice.result.now lines) → yes ≡ true
    → IsFound s bits c.args.budget (Optimal c.args.model.now lines)
    = λ yes h e. found-of s bits c.args.budget c.args.model.now c.as_slice.result.now lines
    (c.if-model-vars.false ∙ c.vars.ensures.value) (c.in_ok-meets_all.ensures c.if-not-branch.false)
    (c.as_slice.ensures.value ∙ c.in_ok-values.ensures)
    (subst (λ n. AreOver n lines) c.vars-2.ensures.value (c.are_over.ensures c.if-not-are_over.false))
    (c.are_within.ensures c.if-not-are_within.false) (h e) in
    IfOk-weaker _ _ _ found c.are_certificate.ensures.shown
