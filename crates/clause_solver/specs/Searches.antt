-- The parts of a solver, and what they keep.
use Rattle.std.specs.Prelude.{◌≡◌, ℕ, ◌+◌, ◌*◌, ◌-◌, ◌<◌, ◌≤◌, Bool, true, false, List, [], ◌∷◌, ◌++◌, Option, Some, None, length, take, slice_get}
use Rattle.clause_store.specs.declared.Lit.{Lit}
use Rattle.clause_store.specs.Lits.{var_of, negation, has}
use Rattle.proof_log.specs.Known.{has_var}
use Rattle.proof_log.specs.Lines.{IsOpen, learnt_in}
use Rattle.clause_watch.specs.declared.trail.Placed.{Placed}
use Rattle.clause_watch.specs.Trails.{lits_of, decisions, upto, next, free_left}
use Rattle.clause_watch.specs.Watches.{WatchValue}
use Rattle.clause_solver.specs.declared.search.Search.{Search}
use Rattle.proof_log.specs.Derivations.{IsDerived}
use Rattle.clause_solver.specs.Learning.{DerivesRest}
use Rattle.clause_solver.specs.Seen.{AreClear}
use Rattle.clause_solver.specs.declared.outcome.Outcome.{Outcome}
use Rattle.clause_solver.specs.declared.choice.Move.{Move}
use Rattle.clause_solver.specs.declared.choice.Move.TheVariants as move
use Rattle.clause_solver.specs.Models.{HaveValues}
use Rattle.clause_solver.specs.Solvers.{SolverValue, IsLogOf, IsInOrder, Adds, Answers, Ends, IsAnew, Refutes, Fixes, StaysOpen}

abbrev pub value_of : Bool → Search → SolverValue
value_of failed s = record {
  input = take s.inputs s.watch.clauses;
  vars = s.watch.vars;
  bits = s.bits;
  given = s.given.items;
  lines = s.log;
  known = s.watch.clauses;
  model = s.model.items;
  failed = failed;
}

pub record IsSearch (s : Search) : Type 0 where
  pub log : IsLogOf (value_of false s)
  pub inputs : s.inputs ≤ length s.watch.clauses
  pub learnt : s.learnt ≡ learnt_in s.log
  pub seen : length s.seen ≡ s.watch.vars
  pub unseen : AreClear s.seen

-- above level 0 the assumed literal is false from level 1 on
abbrev pub IsAssumed : List Placed → Option (ℕ × Lit) → Type 0
IsAssumed placed None = Unit {0}
IsAssumed placed (Some a) = 0 < decisions placed → has (lits_of (upto 1 placed)) (negation a.1) ≡ true

abbrev pub IsOver : ℕ → Option (ℕ × Lit) → Type 0
IsOver vars None = Unit {0}
IsOver vars (Some a) = var_of a.1 < vars

-- the clause that a refutation derives
abbrev pub stated : Option (ℕ × Lit) → List Lit
stated None = []
stated (Some a) = a.1 ∷ []

-- each decided literal is the assumed one, negated
abbrev pub OnlyLeaves : List Placed → List Lit → Type 0
OnlyLeaves placed c = (k : ℕ) (p : Placed) → slice_get placed k ≡ Some p → p.reason ≡ None → has c (negation p.lit) ≡ true

-- what comes next where nothing is left to propagate: a decision, a refutation since the assumed literal is true, or a model
abbrev pub IsFalseOn : List Placed → Option (ℕ × Lit) → Type 0
IsFalseOn placed None = Unit {0}
IsFalseOn placed (Some a) = has (lits_of placed) (negation a.1) ≡ true

abbrev pub IsTrueOn : List Placed → Option (ℕ × Lit) → Type 0
IsTrueOn placed None = ⊥
IsTrueOn placed (Some a) = has (lits_of placed) a.1 ≡ true

abbrev pub IsNext : List Placed → ℕ → ℕ → Option (ℕ × Lit) → Move → Type 0
IsNext placed vars reach assumption (move.Decide l) = (var_of l < vars) × (has_var (lits_of placed) (var_of l) ≡ false)
    × IsAssumed (placed ++ next placed l None ∷ []) assumption
IsNext placed vars reach assumption move.Refute = IsTrueOn placed assumption
IsNext placed vars reach assumption move.Finish = (vars ≤ reach → HaveValues placed vars) × IsFalseOn placed assumption

-- where the loop of the search is
pub record IsReady (s : Search) (assumption : Option (ℕ × Lit)) (budget : ℕ) : Type 0 where
  pub search : IsSearch s
  pub open_log : IsOpen s.log
  pub in_budget : learnt_in s.log ≤ budget
  pub in_order : IsInOrder (value_of false s) assumption
  pub assumed : IsAssumed s.watch.placed assumption

abbrev pub measure_of : ℕ → Search → ℕ
measure_of budget s = (budget + 1 - learnt_in s.log) * (s.watch.vars + 1) + free_left s.watch.placed s.watch.vars

-- a clause was learnt: one more line and clause, and the trail went back
pub record Learns (old new : Search) : Type 0 where
  pub search : IsSearch new
  pub adds : Adds (value_of false old) (value_of false new) None None
  pub open_log : IsOpen new.log
  pub count : learnt_in new.log ≡ learnt_in old.log + 1
  pub level : ℕ
  pub placed : new.watch.placed ≡ upto level old.watch.placed

-- what is derived where the clause of the id is false up to a place
abbrev pub Rests : WatchValue → ℕ → ℕ → Option (ℕ × Lit) → Type 0
Rests w id end assumption = (chain : List ℕ) → DerivesRest w id end chain → IsDerived w.clauses chain (stated assumption)

pub record IsClosed (old new : Search) (assumption : Option (ℕ × Lit)) : Type 0 where
  pub search : IsSearch new
  pub refutes : Refutes (value_of false old) (value_of false new) assumption
  pub open_log : StaysOpen assumption new.log
  pub count : learnt_in new.log ≡ learnt_in old.log

pub record IsFixed (old new : Search) (bit : ℕ) (lit : Lit) : Type 0 where
  pub search : IsSearch new
  pub is : Fixes (value_of false old) (value_of false new) bit lit
  pub open_log : IsOpen new.log

abbrev pub IsPlaceOf : List Placed → ℕ → ℕ → Type 0
IsPlaceOf ps x k = (p : Placed) × (slice_get ps k ≡ Some p) × (var_of p.lit ≡ x)

-- one turn of the loop
abbrev pub IsStep : Search → Search → Option (ℕ × Lit) → ℕ → Option Outcome → Type 0
IsStep old new assumption budget None = Adds (value_of false old) (value_of false new) None None × IsReady new assumption budget
    × (measure_of budget new < measure_of budget old)
IsStep old new assumption budget (Some o) = Answers (value_of false old) (value_of false new) assumption budget o × IsSearch new

-- one turn of a loop whose models reach so far
abbrev pub IsTurn : ℕ → Search → Search → Option (ℕ × Lit) → ℕ → Option Outcome → Type 0
IsTurn reach old new assumption budget None = IsStep old new assumption budget None
IsTurn reach old new assumption budget (Some o) = Ends reach (value_of false old) (value_of false new) assumption budget o × IsSearch new

pub record BeginsAnew (old new : Search) : Type 0 where
  pub search : IsSearch new
  pub is : IsAnew (value_of false old) (value_of false new)
