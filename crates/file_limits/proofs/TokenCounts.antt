-- Answers that are no larger than a bound.
use Rattle.std.proofs.Common.{ℕ, ◌+◌, ◌≤◌, List, length, length-append, arith}
use Rattle.std.specs.Prelude.{Result, Ok, Err, IfOk}
use Rattle.recipe_values.specs.Reads.{Read, join}

-- a bound may grow
pub no-more : {A E : Type 0} (size : A → ℕ) (m n : ℕ) (r : Result A E) → IfOk r (λ a. size a ≤ m) → m ≤ n → IfOk r (λ a. size a ≤ n)
no-more size m n (Ok a) h le = omega (arith, h, le)
no-more size m n (Err e) h le = tt

-- a list of at most n that was read
abbrev pub Few : {A : Type 0} → ℕ → Read (List A) → Type 0
Few n r = IfOk r (λ xs. length xs ≤ n)

-- so may that of a list
pub few-more : {A : Type 0} (m n : ℕ) (r : Read (List A)) → Few m r → m ≤ n → Few n r
few-more {A = A} m n r h le = no-more (λ (xs : List A). length xs) m n r h le

-- two lists that are joined
pub few-join : {A : Type 0} (m n : ℕ) (a b : Read (List A)) → Few m a → Few n b → Few (m + n) (join a b)
few-join m n (Ok a) (Ok b) h k = omega (arith, h, k, length-append a b)
few-join m n (Ok a) (Err place) h k = tt
few-join m n (Err place) b h k = tt
