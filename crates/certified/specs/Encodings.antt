-- Clauses as an encoding of things: assignments that meet them are the things that are right, and bits are theirs.
use Rattle.std.specs.Prelude.{◌≡◌, ℕ, Bool, true, List}
use Rattle.clause_store.specs.declared.Lit.{Lit}
use Rattle.clause_store.specs.Clauses.{Clauses}
use Rattle.proof_log.specs.Certificates.{bits_at}
pub use Rattle.proof_log.specs.Certificates.{MeetsAll}

-- each assignment that meets all clauses is read as a right thing, each right thing is read from one, and the bits are those of the thing
pub record IsEncoding {G : Type 0} (is_right : G → Bool) (bits_of : G → List Bool) (read : (ℕ → Bool) → G) (s : Clauses)
    (bits : List Lit) : Type 0 where
  pub sound : (v : ℕ → Bool) → MeetsAll v s → is_right (read v) ≡ true
  pub complete : (g : G) → is_right g ≡ true → (v : ℕ → Bool) × MeetsAll v s × (read v ≡ g)
  pub same_bits : (v : ℕ → Bool) → MeetsAll v s → bits_at v bits ≡ bits_of (read v)
