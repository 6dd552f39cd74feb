-- A lock file that is judged right.
use Rattle.std.proofs.Common.{◌≡◌, ◌↔◌, refl, sym, Bool, true, false, ℕ, List, Option, Some, None, Result, Ok, Err}
use Rattle.std.specs.Prelude.{IfSome, IfOk}
use Rattle.outside_desk.specs.Files.{Files}
use Rattle.lockfile.specs.declared.lock.Lock.{Lock}
use Rattle.graph_core.specs.Graphs.{Content}
use Rattle.problem.specs.Nodes.{IsWellFormed}
use Rattle.problem.specs.Problems.{Problem}
use Rattle.graph_rules.specs.Valid.{valid}
use Rattle.graph_rules.specs.Verdict.{verdict}
use Rattle.graph_rules.specs.declared.rule.Verdict.{Verdict}
use Rattle.graph_rules.specs.declared.rule.Verdict.TheVariants as verdicts
use Rattle.graph_rules.specs.Costs.{vector}
use Rattle.run_input.specs.Stages.{Is, Then, ◌>>=◌, check}
use Rattle.run_input.proofs.StageLaws.{then_gives, then_stop}
use Rattle.run_input.specs.Stops.{Gives}
use Rattle.run_input.specs.Refusal.{Refusal}
use Rattle.run_input.specs.Refusal.TheVariants as refusals
use Rattle.run_input.specs.ReadStop.{ReadStop}
use Rattle.run_task.specs.Locks.{NamedAt}
use Rattle.run_task.specs.LockRoots.{are_roots_of}
use Rattle.run_task.specs.Verdicts.{unless_broken, weighed, judged, GraphAt, HasCosts, IsRight, IsValidLock}

-- no rule is broken, and these are the costs
abbrev IsWeighed : Problem → Content → List ℕ → Type 0
IsWeighed problem graph numbers = (verdict problem graph ≡ verdicts.Valid) × (vector problem graph ≡ numbers)

by_verdict : (v : Verdict) (costs numbers : List ℕ) → (unless_broken v >>= λ done. Ok costs) ≡ Ok numbers
    → (v ≡ verdicts.Valid) × (costs ≡ numbers)
by_verdict verdicts.Valid costs numbers e = (refl, cc)
by_verdict (verdicts.Broken rule node number) costs numbers e = absurd (cc)

weighed_ok : (problem : Problem) (graph : Content) (numbers : List ℕ) → weighed problem graph ≡ Ok numbers → IsWeighed problem graph numbers
unfolding weighed
weighed_ok problem graph numbers e = by_verdict (verdict problem graph) (vector problem graph) numbers e

by_roots : (same : Bool) (more : Result (List ℕ) Refusal) (numbers : List ℕ)
    → (check refusals.OtherRoots same >>= λ done. more) ≡ Ok numbers
    → (same ≡ true) × (more ≡ Ok numbers)
by_roots true more numbers e = (refl, e)
by_roots false more numbers e = absurd (cc)

judged_ok : (problem : Problem) (lock : Lock) (numbers : List ℕ) → judged problem lock ≡ Ok numbers
    → (are_roots_of lock.hashes problem.roots lock.roots ≡ true) × (weighed problem lock.graph ≡ Ok numbers)
unfolding judged
judged_ok problem lock numbers e =
    by_roots (are_roots_of lock.hashes problem.roots lock.roots) (weighed problem lock.graph) numbers e

-- what the verdict says of a graph that breaks no rule
abbrev pub ValidLaw : Type 0
ValidLaw = (problem : Problem) (graph : Content) → (valid problem graph ≡ true) ↔ (verdict problem graph ≡ verdicts.Valid)

here : ValidLaw → (problem : Problem) (lock : Lock) (numbers : List ℕ) → IsWellFormed lock.graph → judged problem lock ≡ Ok numbers
    → IsRight problem lock numbers
here law problem lock numbers formed e =
    let j = judged_ok problem lock numbers e in
    let w = weighed_ok problem lock.graph numbers j.1 in
    record { roots = j.0; well_formed = formed; is_valid = (law problem lock.graph).1 w.0; costs = w.1 }

-- what is judged is right
pub right : ValidLaw → (problem : Problem) (lock : Lock) (result : Result (List ℕ) ReadStop) → IsWellFormed lock.graph
    → Gives result (Is (judged problem lock)) → IfOk result (λ numbers. IsRight problem lock numbers)
right law problem lock (Ok numbers) formed read = here law problem lock numbers formed (sym read)
right law problem lock (Err stop) formed read = tt

by_files : (before : Option Files) (path : List ℕ) (problem : Problem) (lock : Lock) (numbers : List ℕ)
    → IfSome before (λ files. Gives {T = Lock} (Ok lock) (NamedAt files path problem)) → IsRight problem lock numbers
    → IfSome before (λ files. IsValidLock files path problem numbers)
by_files None path problem lock numbers at is = tt
by_files (Some files) path problem lock numbers at is = record { lock = lock; at = at; right = is }

-- the file at the path is such a lock file
pub valid_lock : (before : Option Files) (path : List ℕ) (problem : Problem) (lock : Lock) (result : Result (List ℕ) ReadStop)
    → IfSome before (λ files. Gives {T = Lock} (Ok lock) (NamedAt files path problem))
    → IfOk result (λ numbers. IsRight problem lock numbers)
    → IfOk result (λ numbers. IfSome before (λ files. IsValidLock files path problem numbers))
valid_lock before path problem lock (Ok numbers) at is = by_files before path problem lock numbers at is
valid_lock before path problem lock (Err stop) at is = tt

-- some valid graph has the costs: that of the lock file
pub has_costs : (problem : Problem) (lock : Lock) (result : Result (List ℕ) ReadStop)
    → IfOk result (λ numbers. IsRight problem lock numbers)
    → IfOk result (λ numbers. HasCosts problem numbers)
has_costs problem lock (Ok numbers) is =
    record { graph = lock.graph; well_formed = is.well_formed; is_valid = is.is_valid; costs = is.costs }
has_costs problem lock (Err stop) is = tt

-- ---- its graph

-- where it is judged right
pub graph_read : (before : Option Files) (path : List ℕ) (problem : Problem) (lock : Lock) (numbers : List ℕ)
    → IfSome before (λ files. Gives {T = Lock} (Ok lock) (NamedAt files path problem))
    → Gives {T = List ℕ} (Ok numbers) (Is (judged problem lock))
    → IfSome before (λ files. Gives {T = Content} (Ok lock.graph) (GraphAt files path problem))
graph_read None path problem lock numbers at is = tt
graph_read (Some files) path problem lock numbers at is = (lock, at, (numbers, is, refl))

-- where it is refused
pub graph_stopped : (before : Option Files) (path : List ℕ) (problem : Problem) (lock : Lock) (stop : ReadStop)
    → IfSome before (λ files. Gives {T = Lock} (Ok lock) (NamedAt files path problem))
    → Gives {T = List ℕ} (Err stop) (Is (judged problem lock))
    → IfSome before (λ files. Gives {T = Content} (Err stop) (GraphAt files path problem))
graph_stopped None path problem lock stop at is = tt
graph_stopped (Some files) path problem lock stop at is =
    then_gives (NamedAt files path problem) (λ lock. Then (Is (judged problem lock)) (λ numbers. Is (Ok lock.graph))) lock (Err stop) at
    (then_stop (Is (judged problem lock)) (λ numbers. Is (Ok lock.graph)) stop is)
