-- What a whole log shows: a certificate of values, a refutation, or that a budget was spent.
use Rattle.std.specs.Prelude.{◌≡◌, ◌⊎◌, ℕ, ◌+◌, Bool, true, false, List, [], ◌∷◌, Some, map, slice_get}
use Rattle.clause_store.specs.declared.Lit.{Lit}
use Rattle.clause_store.specs.Lits.{lit_true, AllBelow}
use Rattle.proof_log.specs.declared.line.Line.{Line}
use Rattle.proof_log.specs.declared.line.Line.TheVariants.{Zero, One, Unsat, Spent, End}
use Rattle.clause_store.specs.Clauses.{AllTrue, Clauses, Meets}
use Rattle.proof_log.specs.Lines.{SettlesNone, learnt_in, AllLines, LastIs, OfLearnt}
use Rattle.proof_log.specs.Logs.{IsSound, AreDistinct, AreUseful}

-- an assignment meets all clauses, whatever their labels
abbrev pub MeetsAll : (ℕ → Bool) → Clauses → Type 0
MeetsAll v s = Meets (λ d. true) v s.entries

-- the bits of an assignment
abbrev pub bits_at : (ℕ → Bool) → List Lit → List Bool
bits_at v bits = map (lit_true v) bits

-- the first list is smaller at the first place where they differ
abbrev pub IsBelow : List Bool → List Bool → Type 0
IsBelow [] bs = ⊥
IsBelow (a ∷ xs) [] = ⊥
IsBelow (a ∷ xs) (b ∷ bs) = ((a ≡ false) × (b ≡ true)) ⊎ ((a ≡ b) × IsBelow xs bs)

-- a bit that a line settles has this value
abbrev pub HasValue : List Bool → Line → Type 0
HasValue values (Zero id b) = slice_get values b ≡ Some false
HasValue values (One id b chain) = slice_get values b ≡ Some true
HasValue values _ = Unit {0}

abbrev pub IsUnsat : Line → Type 0
IsUnsat l = (chain : _) × (l ≡ Unsat chain)

-- the log is sound and distinct, settles all bits at these values, and ends so
pub record IsCertificate (vars : ℕ) (input : List (List Lit)) (bits : List Lit) (values : List Bool) (lines : List Line) : Type 0 where
  pub sound : IsSound vars input bits lines
  pub distinct : AreDistinct input lines
  pub valued : AllLines (HasValue values) lines
  pub last : LastIs (λ l. l ≡ End) lines

-- the log is sound and distinct, settles no bit, and derives the empty clause in the end
pub record IsRefutation (vars : ℕ) (input : List (List Lit)) (bits : List Lit) (lines : List Line) : Type 0 where
  pub sound : IsSound vars input bits lines
  pub distinct : AreDistinct input lines
  pub no_bit : AllLines SettlesNone lines
  pub last : LastIs IsUnsat lines

-- some assignment that meets the clauses has the bits that are settled
pub record AreMet (input : List (List Lit)) (bits : List Lit) (lines : List Line) : Type 0 where
  pub by : ℕ → Bool
  pub meets : AllTrue by input
  pub valued : AllLines (HasValue (bits_at by bits)) lines

-- each learnt clause is over so many variables
abbrev pub AreOver : ℕ → List Line → Type 0
AreOver vars lines = AllLines (OfLearnt (AllBelow vars)) lines

-- the log is sound, and has learnt one clause more than the budget, each distinct, useful and over these variables
pub record IsSpentLog (vars : ℕ) (input : List (List Lit)) (bits : List Lit) (budget : ℕ) (lines : List Line) : Type 0 where
  pub sound : IsSound vars input bits lines
  pub distinct : AreDistinct input lines
  pub useful : AreUseful input bits lines
  pub in_range : AreOver vars lines
  pub count : learnt_in lines ≡ budget + 1
  pub last : LastIs (λ l. l ≡ Spent) lines
  pub met : AllLines SettlesNone lines ⊎ AreMet input bits lines
