-- What holds of what is given at keys, where nothing may be given.
use Rattle.std.specs.Prelude.{ℕ, Bool, true, Option, Some, None}

-- nothing passes
abbrev pub passes_or_none : {X : Type 0} → (X → Bool) → Option X → Bool
passes_or_none test None = true
passes_or_none test (Some x) = test x

-- nothing adds nothing
abbrev pub adds_or_none : {X : Type 0} → (X → ℕ) → Option X → ℕ
adds_or_none cost None = 0
adds_or_none cost (Some x) = cost x
