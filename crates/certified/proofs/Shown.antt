-- What certificates and refutations show.
use Rattle.std.proofs.Common.{◌≡◌, ◌↔◌, ℕ, Bool, true, List, subst, sym, ap, ◌∙◌}
use Rattle.std.specs.Prelude.{Result, Ok, Err, IfOk, OnOk}
use Rattle.clause_store.specs.declared.Lit.{Lit}
use Rattle.clause_store.specs.Clauses.{Clauses, clauses_of}
use Rattle.clause_store.proofs.Entries.{Meets-all}
use Rattle.proof_log.specs.declared.line.Line.{Line}
use Rattle.proof_log.specs.Known.{AllClauses}
use Rattle.proof_log.specs.Certificates.{bits_at, IsBelow, IsCertificate, IsRefutation}
use Rattle.proof_log.proofs.Optimal.{certificate_least, refutation_none}
use Rattle.log_checker.specs.declared.step.Step.{Step}
use Rattle.log_checker.specs.declared.step.Step.TheVariants.{Accepted}
use Rattle.certified.specs.Encodings.{MeetsAll, IsEncoding}

pub least : (s : Clauses) (bits : List Lit) (values : List Bool) (lines : List Line) → AllClauses (clauses_of s.entries)
    → IsCertificate s.vars (clauses_of s.entries) bits values lines
    → (v : ℕ → Bool) → MeetsAll v s → IsBelow (bits_at v bits) values → ⊥
least s bits values lines a c v m b =
    certificate_least s.vars (clauses_of s.entries) bits values lines v a c ((Meets-all v s.entries).0 m) b

pub refuted : (s : Clauses) (bits : List Lit) (lines : List Line) → AllClauses (clauses_of s.entries)
    → IsRefutation s.vars (clauses_of s.entries) bits lines → (v : ℕ → Bool) → MeetsAll v s → ⊥
refuted s bits lines a c v m = refutation_none s.vars (clauses_of s.entries) bits lines v a c ((Meets-all v s.entries).0 m)

pub best : {G : Type 0} (is_right : G → Bool) (bits_of : G → List Bool) (read : (ℕ → Bool) → G) (s : Clauses) (bits : List Lit) (g : G)
    (lines : List Line)
    → IsEncoding is_right bits_of read s bits → AllClauses (clauses_of s.entries)
    → IsCertificate s.vars (clauses_of s.entries) bits (bits_of g) lines
    → (other : G) → is_right other ≡ true → IsBelow (bits_of other) (bits_of g) → ⊥
best is_right bits_of read s bits g lines e a c other r b =
    let m = e.complete other r in
    least s bits (bits_of g) lines a c m.0 m.1 (subst (λ bs. IsBelow bs (bits_of g)) (sym (e.same_bits m.0 m.1 ∙ ap bits_of m.2)) b)

pub none : {G : Type 0} (is_right : G → Bool) (bits_of : G → List Bool) (read : (ℕ → Bool) → G) (s : Clauses) (bits : List Lit)
    (lines : List Line)
    → IsEncoding is_right bits_of read s bits → AllClauses (clauses_of s.entries) → IsRefutation s.vars (clauses_of s.entries) bits lines
    → (g : G) → is_right g ≡ true → ⊥
none is_right bits_of read s bits lines e a c g r = let m = e.complete g r in refuted s bits lines a c m.0 m.1

pub shows-least : {E : Type 0} (r : Result Step E) (s : Clauses) (bits : List Lit) (values : List Bool) (lines : List Line)
    → IfOk r (λ step. (step ≡ Accepted) ↔ IsCertificate s.vars (clauses_of s.entries) bits values lines)
    → OnOk r (AllClauses (clauses_of s.entries))
    → IfOk r (λ step. step ≡ Accepted → (v : ℕ → Bool) → MeetsAll v s → IsBelow (bits_at v bits) values → ⊥)
shows-least (Ok step) s bits values lines e a = λ q. least s bits values lines a (e.0 q)
shows-least (Err x) s bits values lines e a = tt

pub shows-none : {E : Type 0} (r : Result Step E) (s : Clauses) (bits : List Lit) (lines : List Line)
    → IfOk r (λ step. (step ≡ Accepted) ↔ IsRefutation s.vars (clauses_of s.entries) bits lines)
    → OnOk r (AllClauses (clauses_of s.entries))
    → IfOk r (λ step. step ≡ Accepted → (v : ℕ → Bool) → MeetsAll v s → ⊥)
shows-none (Ok step) s bits lines e a = λ q. refuted s bits lines a (e.0 q)
shows-none (Err x) s bits lines e a = tt
