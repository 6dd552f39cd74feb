-- Clauses of a list that an assignment meets, one after another.
use Rattle.std.proofs.Common.{◌≡◌, ℕ, zero, suc, ◌+◌, Bool, true, List, [], ◌∷◌, Some, length, take, add-one, sym, subst, arith}
use Rattle.std.specs.Prelude.{slice_get}
use Rattle.std.proofs.lemmas.Option.{same_Some, none-some}
use Rattle.std.proofs.lemmas.List.{take_all}
use Rattle.clause_store.specs.declared.Lit.{Lit}
use Rattle.clause_store.specs.declared.list.Entry.{Entry}
use Rattle.clause_store.specs.Lits.{clause_true}
use Rattle.clause_store.specs.Clauses.{Clauses, clauses_of, at_id, AllTrue}
use Rattle.clause_store.proofs.Entries.{Meets-all}
use Rattle.proof_log.specs.Certificates.{MeetsAll}

-- one more clause is met
pub met-more : (v : ℕ → Bool) (es : List Entry) (i : ℕ) (c : List Lit) → Some c ≡ at_id (clauses_of es) (i + 1) → clause_true v c ≡ true
    → AllTrue v (clauses_of (take i es)) → AllTrue v (clauses_of (take (i + 1) es))
met-more v es i c q h a = rw add-one (along es i c (sym (rw add-one at q)) h a)
  where
    along : (es : List Entry) (i : ℕ) (c : List Lit) → slice_get (clauses_of es) i ≡ Some c → clause_true v c ≡ true
        → AllTrue v (clauses_of (take i es)) → AllTrue v (clauses_of (take (suc i) es))
    along [] i c q h a = absurd (none-some c q)
    along (e ∷ es) zero c q h a = (subst (λ d. clause_true v d ≡ true) (sym (same_Some e.clause c q)) h, tt)
    along (e ∷ es) (suc i) c q h a = (a.0, along es i c q h a.1)

-- all of them are
pub met-all : (v : ℕ → Bool) (s : Clauses) (n : ℕ) → n ≡ length s.entries → AllTrue v (clauses_of (take n s.entries)) → MeetsAll v s
met-all v s n e a =
    let all : take n s.entries ≡ s.entries = rw e (take_all (length s.entries) s.entries (omega arith)) in
    (Meets-all v s.entries).1 (subst (λ es. AllTrue v (clauses_of es)) all a)
