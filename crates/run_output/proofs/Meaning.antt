-- What is shown is meant: each end of writing as evidence is one by its meaning.
use Rattle.std.proofs.Common.{ℕ, List, [], ◌∷◌, Option, Ok, Err}
use Rattle.outside_desk.specs.Files.{Files}
use Rattle.std.specs.List.{AllZip}
use Rattle.run_task.specs.Problems.{Problem, each_alone}
use Rattle.run_output.specs.Each.{AreSolvedApart}
use Rattle.run_task.specs.Answer.{Answer}
use Rattle.run_task.specs.WriteStop.{WriteStop}
use Rattle.run_task.specs.WriteStop.TheVariants.{Put, Output, NoMemory}
use Rattle.run_task.specs.declared.task.Task.{Task}
use Rattle.run_task.specs.declared.task.Task.TheVariants as tasks
use Rattle.std.specs.Prelude.{Result}
use Rattle.run_output.specs.Answers.{IsFinished, HasBetter, HasNone, HasSpent, IsHalfDone, IsUntold, KeepsWhole, Writes}
use Rattle.run_output.specs.Evidence.{evidence}
use Rattle.run_output.specs.Senses.{meaning}
use Rattle.run_output.specs.Told.{Tells, IsCompared, IsTold, IsHalfTold}
use Rattle.run_output.specs.declared.answer.Outcome.{Outcome}
use Rattle.run_output.specs.declared.answer.Outcome.TheVariants.{Solved, Unsolved, Undecided, Stale}

-- what is told of a comparison
compared_meant : (problem : Problem) (numbers : List ℕ) (outcome : Outcome) (text : List ℕ)
    → IsCompared evidence problem numbers outcome text
    → IsCompared meaning problem numbers outcome text
compared_meant problem numbers Solved text t =
    record { graph = t.graph; log = t.log; best = t.best.means; same = t.same; is_text = t.is_text }
compared_meant problem numbers Stale text t =
    record { graph = t.graph; log = t.log; best = t.best.means; less = t.less; is_text = t.is_text }
compared_meant problem numbers Undecided text t = record { log = t.log; spent = t.spent.means; is_text = t.is_text }
compared_meant problem numbers Unsolved text t = t

-- what is told
pub tells_meant : (task : Task) (outcome : Outcome) (text : List ℕ) → Tells evidence task outcome text → Tells meaning task outcome text
tells_meant (tasks.Solve input) outcome text t = absurd t
tells_meant (tasks.Each input) outcome text t = absurd t
tells_meant (tasks.Report numbers) outcome text t = t
tells_meant tasks.Accepted outcome text t = t
tells_meant (tasks.Explain input) outcome text t =
    record { explanation = t.explanation; explains = t.explains.means; is_outcome = t.is_outcome; is_text = t.is_text }
tells_meant (tasks.Reasons input) outcome text t =
    record { explanation = t.explanation; explains = t.explains.means; is_outcome = t.is_outcome; is_text = t.is_text }
tells_meant (tasks.Try input) outcome text t =
    record { answer = t.answer; found = t.found.means; is_outcome = t.is_outcome; is_text = t.is_text }
tells_meant (tasks.Compare input numbers) outcome text t = compared_meant input.problem numbers outcome text t
tells_meant (tasks.Find query) outcome text t = t
tells_meant (tasks.Plan graph) outcome text t = t

-- answers of all roots
all_meant : (problems : List Problem) (found : List Answer) → AllZip evidence.answers problems found → AllZip meaning.answers problems found
all_meant [] [] each = tt
all_meant [] (answer ∷ found) each = absurd each
all_meant (problem ∷ problems) [] each = absurd each
all_meant (problem ∷ problems) (answer ∷ found) each = (each.0.means, all_meant problems found each.1)

module _ (before after : Option Files) (said more : Option (List ℕ)) where
  apart_meant : (dir : List ℕ) (problem : Problem) (outcome : Outcome) → AreSolvedApart evidence dir problem outcome before after said more
      → AreSolvedApart meaning dir problem outcome before after said more
  apart_meant dir problem outcome s = record {
    found = s.found;
    each = all_meant (each_alone problem) s.found s.each;
    is_outcome = s.is_outcome;
    files = s.files;
    out = s.out;
  }

  told_meant : (task : Task) (outcome : Outcome) → IsTold evidence task outcome before after said more
      → IsTold meaning task outcome before after said more
  told_meant task outcome t = record { text = t.text; tells = tells_meant task outcome t.text t.tells; files = t.files; out = t.out }

  half_told_meant : (task : Task) → IsHalfTold evidence task before after said more → IsHalfTold meaning task before after said more
  half_told_meant task t =
      record { outcome = t.outcome; text = t.text; tells = tells_meant task t.outcome t.text t.tells; files = t.files; out = t.out }

  -- Done
  pub finished_meant : (lock cert : List ℕ) (task : Task) → IsFinished evidence lock cert task before after said more
      → IsFinished meaning lock cert task before after said more
  finished_meant lock cert (tasks.Solve input) s =
      record { graph = s.graph; log = s.log; best = s.best.means; files = s.files; read = s.read; out = s.out }
  finished_meant dir cert (tasks.Each input) s = apart_meant dir input.problem Solved s
  finished_meant lock cert other t = told_meant other Solved t

  -- Unsatisfiable
  pub none_meant : (lock cert : List ℕ) (task : Task) → HasNone evidence lock cert task before after said more
      → HasNone meaning lock cert task before after said more
  none_meant lock cert (tasks.Solve input) s = record { log = s.log; none = s.none.means; files = s.files; out = s.out }
  none_meant dir cert (tasks.Each input) s = apart_meant dir input.problem Unsolved s
  none_meant lock cert other t = told_meant other Unsolved t

  -- Undecided
  pub spent_meant : (lock cert : List ℕ) (task : Task) → HasSpent evidence lock cert task before after said more
      → HasSpent meaning lock cert task before after said more
  spent_meant lock cert (tasks.Solve input) s = record { log = s.log; spent = s.spent.means; files = s.files; out = s.out }
  spent_meant dir cert (tasks.Each input) s = apart_meant dir input.problem Undecided s
  spent_meant lock cert other t = told_meant other Undecided t

  -- Stale
  pub better_meant : (task : Task) → HasBetter evidence task before after said more → HasBetter meaning task before after said more
  better_meant (tasks.Solve input) t = t
  better_meant (tasks.Each input) t = t
  better_meant other t = told_meant other Stale t

  half_meant : (lock cert : List ℕ) (task : Task) (path : List ℕ) → IsHalfDone evidence lock cert task path before after
      → IsHalfDone meaning lock cert task path before after
  half_meant lock cert (tasks.Solve input) path h = record { answer = h.answer; found = h.found.means; half = h.half }
  half_meant dir cert (tasks.Each input) path h =
      record { found = h.found; each = all_meant (each_alone input.problem) h.found h.each; half = h.half }
  half_meant lock cert other path h = absurd h

  untold_meant : (lock cert : List ℕ) (task : Task) → IsUntold evidence lock cert task before after said more
      → IsUntold meaning lock cert task before after said more
  untold_meant lock cert (tasks.Solve input) u =
      record { answer = u.answer; found = u.found.means; files = u.files; out = u.out }
  untold_meant dir cert (tasks.Each input) u =
      record { found = u.found; each = all_meant (each_alone input.problem) u.found u.each; files = u.files; out = u.out }
  untold_meant lock cert other t = half_told_meant other t

  -- what writing leaves
  pub writes_meant : (lock cert : List ℕ) (task : Task) (result : Result Outcome WriteStop)
      → Writes evidence lock cert task before after said more result → Writes meaning lock cert task before after said more result
  writes_meant lock cert task (Ok Solved) left = finished_meant lock cert task left
  writes_meant lock cert task (Ok Unsolved) left = none_meant lock cert task left
  writes_meant lock cert task (Ok Undecided) left = spent_meant lock cert task left
  writes_meant lock cert task (Ok Stale) left = better_meant task left
  writes_meant lock cert task (Err (Put at)) left = (half_meant lock cert task at left.0, left.1)
  writes_meant lock cert task (Err Output) left = untold_meant lock cert task left
  writes_meant lock cert task (Err NoMemory) left = left

-- what the files hold at any end
pub whole_meant : (lock cert : List ℕ) (task : Task) (before after : Option Files) → KeepsWhole evidence lock cert task before after
    → KeepsWhole meaning lock cert task before after
whole_meant lock cert (tasks.Solve input) before after w = record { answer = w.answer; found = w.found.means; held = w.held }
whole_meant dir cert (tasks.Each input) before after w =
    record { found = w.found; each = all_meant (each_alone input.problem) w.found w.each; held = w.held }
whole_meant lock cert other before after w = absurd w
