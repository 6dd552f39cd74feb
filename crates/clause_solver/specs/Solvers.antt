-- A solver as callers see it, and what its answers say.
use Rattle.std.specs.Prelude.{◌≡◌, ℕ, ◌+◌, ◌<◌, ◌≤◌, Bool, false, List, [], ◌∷◌, ◌++◌, Option, Some, None, length}
use Rattle.clause_store.specs.declared.Lit.{Lit}
use Rattle.clause_store.specs.Clauses.{Clauses, clauses_of, AllTrue}
use Rattle.clause_store.specs.Lits.{var_of, negation, lit_true}
use Rattle.proof_log.specs.declared.line.Line.{Line}
use Rattle.proof_log.specs.declared.line.Line.TheVariants as line
use Rattle.proof_log.specs.Lines.{with_added, learnt_in, AllLearnt, IsOpen}
use Rattle.proof_log.specs.Logs.{IsGrowing}
use Rattle.clause_solver.specs.declared.outcome.Outcome.{Outcome}
use Rattle.clause_solver.specs.declared.outcome.Outcome.TheVariants as outcome
use Rattle.clause_solver.specs.Models.{values_in}

-- the clauses at first, the variables and bits, the literals of the bits settled so far, the log, the clauses known now,
-- the last model, and whether memory ran out
pub record SolverValue : Type 0 where
  pub input : List (List Lit)
  pub vars : ℕ
  pub bits : ℕ
  pub given : List Lit
  pub lines : List Line
  pub known : List (List Lit)
  pub model : List Bool
  pub failed : Bool

-- the solver's log is sound whichever literals the bits to come have, and gives the known clauses
abbrev pub IsLogOf : SolverValue → Type 0
IsLogOf s = IsGrowing s.vars s.input s.bits s.given s.known s.lines

-- the log has grown by learnt lines and perhaps a last one, and the given literals by the last line's
pub record Adds (old new : SolverValue) (lit : Option Lit) (last : Option Line) : Type 0 where
  pub input : new.input ≡ old.input
  pub vars : new.vars ≡ old.vars
  pub bits : new.bits ≡ old.bits
  pub model : new.model ≡ old.model
  pub given : new.given ≡ with_added old.given lit
  pub learnt : List Line
  pub all_learnt : AllLearnt learnt
  pub lines : new.lines ≡ with_added (old.lines ++ learnt) last

abbrev pub IsFalseIn : List Bool → Option (ℕ × Lit) → Type 0
IsFalseIn model None = Unit {0}
IsFalseIn model (Some a) = lit_true (values_in model) a.1 ≡ false

-- a model of all known clauses and of the assumption
pub record FindsModel (old new : SolverValue) (assumption : Option (ℕ × Lit)) : Type 0 where
  pub adds : Adds old (record new { model = old.model }) None None
  pub whole : length new.model ≡ new.vars
  pub meets : AllTrue (values_in new.model) new.known
  pub assumed : IsFalseIn new.model assumption

-- values of the variables below a reach, where nothing follows from them: a model, if that is all variables
pub record FindsWithin (reach : ℕ) (old new : SolverValue) (assumption : Option (ℕ × Lit)) : Type 0 where
  pub adds : Adds old (record new { model = old.model }) None None
  pub whole : length new.model ≡ new.vars
  pub meets : new.vars ≤ reach → AllTrue (values_in new.model) new.known
  pub assumed : IsFalseIn new.model assumption

-- the line that refutes the assumption, or all
abbrev pub Closes : Option (ℕ × Lit) → Line → Type 0
Closes None (line.Unsat chain) = Unit {0}
Closes (Some a) (line.One id bit chain) = bit ≡ a.0
Closes _ _ = ⊥

abbrev pub literal_of : Option (ℕ × Lit) → Option Lit
literal_of None = None
literal_of (Some a) = Some a.1

abbrev pub Refutes : SolverValue → SolverValue → Option (ℕ × Lit) → Type 0
Refutes old new assumption = (l : Line) × Closes assumption l × Adds old new (literal_of assumption) (Some l)

-- the bit is settled at 0 by one line
abbrev pub Fixes : SolverValue → SolverValue → ℕ → Lit → Type 0
Fixes old new bit lit = new ≡ record old {
  given = old.given ++ lit ∷ [];
  lines = old.lines ++ line.Zero (length old.known + 1) bit ∷ [];
  known = old.known ++ (negation lit ∷ []) ∷ [];
}

-- the log has not ended, unless all was refuted
abbrev pub StaysOpen : Option (ℕ × Lit) → List Line → Type 0
StaysOpen None lines = Unit {0}
StaysOpen (Some a) lines = IsOpen lines

abbrev pub Answers : SolverValue → SolverValue → Option (ℕ × Lit) → ℕ → Outcome → Type 0
Answers old new assumption budget outcome.Model = FindsModel old new assumption × (learnt_in new.lines ≤ budget) × IsOpen new.lines
Answers old new assumption budget outcome.Refuted = Refutes old new assumption × (learnt_in new.lines ≤ budget)
    × StaysOpen assumption new.lines
Answers old new assumption budget outcome.Spent = Adds old new None (Some line.Spent) × (learnt_in new.lines ≡ budget + 1)

-- the same where a model reaches so far
abbrev pub Ends : ℕ → SolverValue → SolverValue → Option (ℕ × Lit) → ℕ → Outcome → Type 0
Ends reach old new assumption budget outcome.Model = FindsWithin reach old new assumption × (learnt_in new.lines ≤ budget)
    × IsOpen new.lines
Ends reach old new assumption budget outcome.Refuted = Answers old new assumption budget outcome.Refuted
Ends reach old new assumption budget outcome.Spent = Answers old new assumption budget outcome.Spent

-- the log begins anew, over what is known and perhaps more
pub record IsAnew (old new : SolverValue) : Type 0 where
  pub vars : new.vars ≡ old.vars
  pub given : new.given ≡ []
  pub open_log : IsOpen new.lines
  pub none_learnt : learnt_in new.lines ≡ 0

-- the assumed bit is the next one, and its literal is over the variables
abbrev pub IsInOrder : SolverValue → Option (ℕ × Lit) → Type 0
IsInOrder s None = Unit {0}
IsInOrder s (Some a) = (a.0 ≡ length s.given) × (var_of a.1 < s.vars)

-- a solver at first
abbrev pub start_of : Clauses → ℕ → SolverValue
start_of s bits = record {
  input = clauses_of s.entries;
  vars = s.vars;
  bits = bits;
  given = [];
  lines = line.Header s.vars (length s.entries) bits ∷ [];
  known = clauses_of s.entries;
  model = [];
  failed = false;
}
