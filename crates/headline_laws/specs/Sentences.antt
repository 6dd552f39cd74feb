-- What an answer comes to, in the words of the files, of graphs that are valid, and of what they
-- cost.
use Rattle.std.specs.Prelude.{◌≡◌, ◌==◌, ◌⊎◌, ◌<◌, ◌-◌, ◌^◌, ℕ, length, true, false, not, filter, List, Option, Some, Ok, Contains, IsSomeAnd, filter_map, slice_get}
use Rattle.std.specs.FinMap.{get}
use Rattle.outside_desk.specs.Files.{Files, and_said}
use Rattle.run_output.specs.Graphs.{Content}
use Rattle.run_output.specs.Nodes.{IsWellFormed}
use Rattle.run_output.specs.Problems.{Problem}
use Rattle.run_output.specs.Demands.{demands}
use Rattle.run_output.specs.Demand.{Demand}
use Rattle.run_output.specs.Valid.{valid, valid_for}
use Rattle.run_output.specs.Costs.{vector, smaller}
use Rattle.run_output.specs.Verdicts.{IsValidLock}
use Rattle.run_output.specs.Exits.{Spoken}
use Rattle.run_output.specs.Line.{Line}
use Rattle.run_output.specs.Status.{Status}
use Rattle.run_output.specs.Status.TheVariants as statuses
use Rattle.run_output.specs.Inputs.{ReadsInput}
use Rattle.run_output.specs.Input.{Input}
use Rattle.run_output.specs.Words.{Command}
use Rattle.run_output.specs.Locks.{lock_of}
use Rattle.run_output.specs.DemandTexts.{reasons_text}
use Rattle.run_output.specs.LeastTexts.{least_explanation_text}
use Rattle.run_output.specs.LeastExplanation.TheVariants as least

-- the command reads a problem over these files, of which this holds
pub record Reads (files : Files) (command : Command) (Holds : Problem → Type 0) : Type 0 where
  pub input : Input
  pub read : ReadsInput files command (Ok input)
  pub holds : Holds input.problem

-- the graph is valid, and no valid graph costs less
pub record IsCheapest (problem : Problem) (graph : Content) : Type 0 where
  pub well_formed : IsWellFormed graph
  pub is_valid : valid problem graph ≡ true
  pub least : (other : Content) → IsWellFormed other → valid problem other ≡ true
      → smaller (vector problem other) (vector problem graph) ≡ false

-- some graph is valid
abbrev pub HasGraph : Problem → Type 0
HasGraph problem = (graph : Content) × IsWellFormed graph × (valid problem graph ≡ true)

-- no graph is valid
abbrev pub HasNone : Problem → Type 0
HasNone problem = (graph : Content) → IsWellFormed graph → valid problem graph ≡ true → ⊥

-- after the run the file at the path is the lock file of a valid graph that no other beats
pub record LeavesCheapest (after : Option Files) (path : List ℕ) (problem : Problem) : Type 0 where
  pub graph : Content
  pub cheapest : IsCheapest problem graph
  pub lock : IsSomeAnd after (λ files. get files path ≡ Some (lock_of problem graph))

-- the file at the path is a lock file of just the roots that are asked for, and this holds of its
-- graph
pub record HoldsLock (files : Files) (path : List ℕ) (problem : Problem) (Holds : Content → Type 0) : Type 0 where
  pub costs : List ℕ
  pub valid : IsValidLock files path problem costs
  pub holds : Holds valid.lock.graph

-- its graph is valid, and no valid graph costs less
abbrev pub IsCheapestAt : Files → List ℕ → Problem → Type 0
IsCheapestAt files path problem = HoldsLock files path problem (IsCheapest problem)

-- the graph is valid, and another one is that costs less
pub record IsOutbid (problem : Problem) (graph : Content) : Type 0 where
  pub well_formed : IsWellFormed graph
  pub is_valid : valid problem graph ≡ true
  pub other : Content
  pub other_formed : IsWellFormed other
  pub other_valid : valid problem other ≡ true
  pub less : smaller (vector problem other) (vector problem graph) ≡ true

abbrev pub IsBeaten : Files → List ℕ → Problem → Type 0
IsBeaten files path problem = HoldsLock files path problem (IsOutbid problem)

-- the demands with these numbers
abbrev pub demands_with : Problem → List ℕ → List Demand
demands_with problem numbers = filter_map (slice_get (demands problem)) numbers

-- all numbers of a list but this one
abbrev pub others : ℕ → List ℕ → List ℕ
others number numbers = filter (λ other. not (number == other)) numbers

-- no graph is valid for these demands alone
abbrev pub AreUnmet : Problem → List ℕ → Type 0
AreUnmet problem numbers = (graph : Content) → IsWellFormed graph → valid_for (demands_with problem numbers) problem graph ≡ true → ⊥

-- demands were said, and no graph is valid for them alone
pub record AreUnmetAlone (out : Spoken) (problem : Problem) : Type 0 where
  pub numbers : List ℕ
  pub said : out.1 ≡ and_said out.0 (reasons_text problem numbers)
  pub unmet : AreUnmet problem numbers

-- and for each of them some graph is valid for all others: none can be left out
pub record IsLeastAlone (out : Spoken) (problem : Problem) : Type 0 where
  pub numbers : List ℕ
  pub graphs : List Content
  pub said : out.1 ≡ and_said out.0 (least_explanation_text problem (least.Least numbers graphs))
  pub unmet : AreUnmet problem numbers
  pub needed : (number : ℕ) → Contains numbers number
      → (graph : Content) × IsWellFormed graph × (valid_for (demands_with problem (others number numbers)) problem graph ≡ true)

-- the budget of the settings was spent, which none of 2^64 - 1 is: more lines were written than it
-- counts
pub record IsSpent (problem : Problem) : Type 0 where
  pub lines : List Line
  pub more : problem.settings.conflict_budget < length lines
  pub finite : problem.settings.conflict_budget < 2 ^ 64 - 1

-- no file changed, nothing was said on the one stream, and a line on the other
pub record IsTurnedAway (files : Files) (after : Option Files) (out err : Spoken) : Type 0 where
  pub unchanged : after ≡ Some files
  pub output : out.1 ≡ out.0
  pub line : List ℕ
  pub errors : err.1 ≡ and_said err.0 line

-- what answers input that nothing refuses, where no device fails
abbrev pub IsSettled : Status → Type 0
IsSettled status =
    (status ≡ statuses.Done)
    ⊎ ((status ≡ statuses.Unsatisfiable) ⊎ ((status ≡ statuses.Undecided) ⊎ ((status ≡ statuses.Stale) ⊎ (status ≡ statuses.NoMemory))))
