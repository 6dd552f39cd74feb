-- What is said of a lock file: the cost vector of its graph, or the refusal that is due first.
use Rattle.std.specs.Prelude.{◌≡◌, true, ℕ, List, Result, Ok, Err}
use Rattle.outside_desk.specs.Files.{Files}
use Rattle.graph_core.specs.Graphs.{Content}
use Rattle.problem.specs.Problems.{Problem}
use Rattle.graph_rules.specs.Verdict.{verdict}
use Rattle.graph_rules.specs.declared.rule.Verdict.{Verdict}
use Rattle.graph_rules.specs.declared.rule.Verdict.TheVariants as verdicts
use Rattle.graph_rules.specs.Costs.{vector}
use Rattle.problem.specs.Nodes.{IsWellFormed}
use Rattle.graph_rules.specs.Valid.{valid}
use Rattle.lockfile.specs.declared.lock.Lock.{Lock}
use Rattle.run_input.specs.Stages.{Is, Then, check, ◌>>=◌}
use Rattle.run_input.specs.Refusal.{Refusal}
use Rattle.run_input.specs.Refusal.TheVariants as refusals
use Rattle.run_task.specs.Locks.{NamedAt}
use Rattle.run_task.specs.LockRoots.{are_roots_of}

-- no rule is broken
abbrev pub unless_broken : Verdict → Result (Unit {0}) Refusal
unless_broken verdicts.Valid = Ok tt
unless_broken (verdicts.Broken rule node number) = Err (refusals.BrokenRule rule node number)

-- the rules, and then the cost vector
unfoldable pub weighed : Problem → Content → Result (List ℕ) Refusal
weighed problem graph = do
  valid ← unless_broken (verdict problem graph)
  Ok (vector problem graph)

-- the roots, and then the graph
unfoldable pub judged : Problem → Lock → Result (List ℕ) Refusal
judged problem lock = do
  asked ← check refusals.OtherRoots (are_roots_of lock.hashes problem.roots lock.roots)
  weighed problem lock.graph

-- what is said of the lock file at the path
abbrev pub Judges : Files → List ℕ → Problem → Result (List ℕ) Refusal → Type 0
Judges files path problem = Then (NamedAt files path problem) (λ lock. Is (judged problem lock))

-- a lock file is one of just the roots that are asked for, and its graph is valid and has these
-- costs
pub record IsRight (problem : Problem) (lock : Lock) (numbers : List ℕ) : Type 0 where
  pub roots : are_roots_of lock.hashes problem.roots lock.roots ≡ true
  pub well_formed : IsWellFormed lock.graph
  pub is_valid : valid problem lock.graph ≡ true
  pub costs : vector problem lock.graph ≡ numbers

-- the file at the path is such a lock file
pub record IsValidLock (files : Files) (path : List ℕ) (problem : Problem) (numbers : List ℕ) : Type 0 where
  pub lock : Lock
  pub at : NamedAt files path problem (Ok lock)
  pub right : IsRight problem lock numbers

-- some valid graph has these costs
pub record HasCosts (problem : Problem) (numbers : List ℕ) : Type 0 where
  pub graph : Content
  pub well_formed : IsWellFormed graph
  pub is_valid : valid problem graph ≡ true
  pub costs : vector problem graph ≡ numbers

-- what is said of the lock file at the path, and then its graph
abbrev pub GraphAt : Files → List ℕ → Problem → Result Content Refusal → Type 0
GraphAt files path problem = Then (NamedAt files path problem) (λ lock. Then (Is (judged problem lock)) (λ numbers. Is (Ok lock.graph)))
