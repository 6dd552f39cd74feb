-- When a log is sound, when its learnt clauses are distinct and useful, and a log whose bits are not all given yet.
use Rattle.std.specs.Prelude.{◌≡◌, ℕ, ◌+◌, List, [], ◌∷◌, ◌++◌, Option, Some, None, length, slice_get}
use Rattle.clause_store.specs.declared.Lit.{Lit}
use Rattle.clause_store.specs.Lits.{IsClause}
use Rattle.proof_log.specs.declared.line.Line.{Line}
use Rattle.proof_log.specs.declared.line.Line.TheVariants.{Header, Learnt, Zero, One, Unsat, Spent, End}
use Rattle.proof_log.specs.Derivations.{IsDerived}
use Rattle.proof_log.specs.Usefulness.{IsUseful, IsNew}
use Rattle.proof_log.specs.Lines.{with_added, learnt, known_after, settled_after, OfLearnt, EachLine, EndsLast}

-- after the first line: a line takes the next id, its bit is the next, and its clause is derived
abbrev pub LineHolds : List Lit → List (List Lit) → ℕ → Line → Type 0
LineHolds bits known n (Learnt id c chain) = (id ≡ length known + 1) × IsClause c × IsDerived known chain c
LineHolds bits known n (Zero id b) = (id ≡ length known + 1) × (b ≡ n) × (l : Lit) × (slice_get bits n ≡ Some l)
LineHolds bits known n (One id b chain) = (id ≡ length known + 1) × (b ≡ n) × (l : Lit) × (slice_get bits n ≡ Some l)
    × IsDerived known chain (l ∷ [])
LineHolds bits known n (Unsat chain) = IsDerived known chain []
LineHolds bits known n Spent = Unit {0}
LineHolds bits known n End = n ≡ length bits
LineHolds bits known n (Header vars clauses m) = ⊥

-- a log over these variables, input clauses and bits is sound
abbrev pub IsSound : ℕ → List (List Lit) → List Lit → List Line → Type 0
IsSound vars input bits [] = ⊥
IsSound vars input bits (l ∷ ls) = (l ≡ Header vars (length input) (length bits)) × EachLine (LineHolds bits) bits input 0 ls × EndsLast ls

-- a learnt clause equals none of these as a set
abbrev pub IsDistinct : List (List Lit) → Option (List Lit) → Type 0
IsDistinct rivals None = Unit {0}
IsDistinct rivals (Some c) = IsNew rivals c

-- no learnt clause equals an input clause or an earlier learnt one; the clauses of settled bits are no rivals
abbrev pub AreDistinct : List (List Lit) → List Line → Type 0
AreDistinct rivals [] = Unit {0}
AreDistinct rivals (l ∷ ls) = IsDistinct rivals (learnt l) × AreDistinct (with_added rivals (learnt l)) ls

-- unit propagation over the clauses known before does not give a learnt clause
abbrev pub AreUseful : List (List Lit) → List Lit → List Line → Type 0
AreUseful input bits lines = EachLine (λ known n. OfLearnt (IsUseful known)) bits input 0 lines

-- a log that grows, with the literals of the bits that were settled so far: whichever literals the bits to come have,
-- it is sound, its learnt clauses are useful, and it makes these clauses known
pub record IsGrowing (vars : ℕ) (input : List (List Lit)) (bits : ℕ) (given : List Lit) (known : List (List Lit))
    (lines : List Line) : Type 0 where
  pub settled : settled_after 0 lines ≡ length given
  pub sound : (more : List Lit) → length (given ++ more) ≡ bits → IsSound vars input (given ++ more) lines
  pub useful : (more : List Lit) → AreUseful input (given ++ more) lines
  pub knows : (more : List Lit) → known_after (given ++ more) input lines ≡ known
