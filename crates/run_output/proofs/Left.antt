-- What the writing of an answer leaves, by the answer.
use Rattle.std.proofs.Common.{◌≡◌, ◌⊎◌, inl, inr, ℕ, List, Option, Result, Ok, Err}
use Rattle.std.specs.Prelude.{OnOk}
use Rattle.outside_desk.specs.Files.{Files}
use Rattle.run_task.specs.Answer.{Answer}
use Rattle.run_task.specs.Answer.TheVariants as answers
use Rattle.run_task.specs.Input.{Input}
use Rattle.run_task.specs.WriteStop.{WriteStop}
use Rattle.run_task.specs.WriteStop.TheVariants.{Put, Output, NoMemory}
use Rattle.run_task.specs.declared.task.Task.TheVariants as tasks
use Rattle.run_output.specs.Answers.{KeepsWhole, Leaves, Writes}
use Rattle.run_output.specs.Put.{HoldsWhole}
use Rattle.run_output.specs.Evidence.{IsFor, evidence}
use Rattle.run_output.specs.Locks.{HasReadableLock}
use Rattle.run_output.specs.declared.answer.Outcome.{Outcome}
use Rattle.run_output.specs.declared.answer.Outcome.TheVariants.{Solved, Unsolved, Undecided, Stale}

module _ (lock cert : List ℕ) (input : Input) (before after : Option Files) (said more : Option (List ℕ)) where
  solved : (answer : Answer) → IsFor input.problem answer → HasReadableLock input.problem answer
      → Leaves lock cert input.problem answer before after said more (Ok Solved)
      → Writes evidence lock cert (tasks.Solve input) before after said more (Ok Solved)
  solved (answers.Best graph log) found read (is, files, out) =
      record { graph = graph; log = log; best = found; files = files; read = read; out = out }
  solved (answers.Nothing log) found read (is, files, out) = absurd (let no : Solved ≡ Unsolved = is in cc)
  solved (answers.Undecided log) found read (is, files, out) = absurd (let no : Solved ≡ Undecided = is in cc)

  unsolved : (answer : Answer) → IsFor input.problem answer
      → Leaves lock cert input.problem answer before after said more (Ok Unsolved)
      → Writes evidence lock cert (tasks.Solve input) before after said more (Ok Unsolved)
  unsolved (answers.Best graph log) found (is, files, out) = absurd (let no : Unsolved ≡ Solved = is in cc)
  unsolved (answers.Nothing log) found (is, files, out) = record { log = log; none = found; files = files; out = out }
  unsolved (answers.Undecided log) found (is, files, out) = absurd (let no : Unsolved ≡ Undecided = is in cc)

  undecided : (answer : Answer) → IsFor input.problem answer
      → Leaves lock cert input.problem answer before after said more (Ok Undecided)
      → Writes evidence lock cert (tasks.Solve input) before after said more (Ok Undecided)
  undecided (answers.Best graph log) found (is, files, out) = absurd (let no : Undecided ≡ Solved = is in cc)
  undecided (answers.Nothing log) found (is, files, out) = absurd (let no : Undecided ≡ Unsolved = is in cc)
  undecided (answers.Undecided log) found (is, files, out) = record { log = log; spent = found; files = files; out = out }

  -- no answer is a better one than a lock file
  never_stale : (answer : Answer) → Leaves lock cert input.problem answer before after said more (Ok Stale) → ⊥
  never_stale (answers.Best graph log) (is, files, out) = let no : Stale ≡ Solved = is in cc
  never_stale (answers.Nothing log) (is, files, out) = let no : Stale ≡ Unsolved = is in cc
  never_stale (answers.Undecided log) (is, files, out) = let no : Stale ≡ Undecided = is in cc

  -- an answer that was found, and written
  pub written : (answer : Answer) (result : Result Outcome WriteStop) → IsFor input.problem answer
      → OnOk result (HasReadableLock input.problem answer)
      → Leaves lock cert input.problem answer before after said more result
      → Writes evidence lock cert (tasks.Solve input) before after said more result
  written answer (Ok Solved) found read left = solved answer found read left
  written answer (Ok Unsolved) found read left = unsolved answer found left
  written answer (Ok Undecided) found read left = undecided answer found left
  written answer (Ok Stale) found read left = absurd (never_stale answer left)
  written answer (Err (Put at)) found read left = (record { answer = answer; found = found; half = left.0 }, left.1)
  written answer (Err Output) found read left = record { answer = answer; found = found; files = left.0; out = left.1 }
  written answer (Err NoMemory) found read left = left

  -- what it keeps at any end
  pub kept : (answer : Answer) → IsFor input.problem answer
      → (after ≡ before) ⊎ HoldsWhole lock cert input.problem answer before after
      → (after ≡ before) ⊎ KeepsWhole evidence lock cert (tasks.Solve input) before after
  kept answer found (inl same) = inl same
  kept answer found (inr held) = inr (record { answer = answer; found = found; held = held })
