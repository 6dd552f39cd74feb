-- Stages of reading, of which the first refusal counts.
use Rattle.std.specs.Prelude.{◌≡◌, ◌⊎◌, ℕ, Bool, true, false, Option, Some, None, Result, Ok, Err}
use Rattle.run_answers.specs.declared.refusal.Refusal.{Refusal}
use Rattle.run_answers.specs.Refusals.{in_root}

-- ---- relations

-- a stage that gives this
abbrev pub Is : {A : Type 0} → Result A Refusal → Result A Refusal → Type 0
Is given result = result ≡ given

-- one stage, and then another over what it gives
abbrev pub Then : {A B : Type 0} → (Result A Refusal → Type 0) → (A → Result B Refusal → Type 0) → Result B Refusal → Type 0
Then {A} first next (Ok y) = (x : A) × first (Ok x) × next x (Ok y)
Then {A} first next (Err refusal) = first (Err refusal) ⊎ ((x : A) × first (Ok x) × next x (Err refusal))

-- a stage over the files of the root with this number: what is refused says which root
abbrev pub InRoot : {A : Type 0} → ℕ → (Result A Refusal → Type 0) → Result A Refusal → Type 0
InRoot root stage (Ok x) = stage (Ok x)
InRoot root stage (Err refusal) = (inner : Refusal) × stage (Err inner) × (refusal ≡ in_root root inner)

-- ---- computations: each answers, or refuses

infixl 10 ◌>>=◌
abbrev pub ◌>>=◌ : {A B : Type 0} → Result A Refusal → (A → Result B Refusal) → Result B Refusal
(Ok x) >>= f = f x
(Err refusal) >>= f = Err refusal

-- a value that has to be there
abbrev pub or_refuse : {A : Type 0} → Refusal → Option A → Result A Refusal
or_refuse refusal None = Err refusal
or_refuse refusal (Some x) = Ok x

-- nothing that may be there
abbrev pub refuse_some : {A : Type 0} → (A → Refusal) → Option A → Result (Unit {0}) Refusal
refuse_some refusal None = Ok tt
refuse_some refusal (Some x) = Err (refusal x)

-- a test that has to hold
abbrev pub check : Refusal → Bool → Result (Unit {0}) Refusal
check refusal true = Ok tt
check refusal false = Err refusal
