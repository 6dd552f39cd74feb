-- What the writing of the answers of all roots leaves, by how it ended.
use Rattle.std.proofs.Common.{◌≡◌, ◌⊎◌, inl, inr, refl, ℕ, List, [], ◌∷◌, Option, Result, Ok, Err}
use Rattle.outside_desk.specs.Files.{Files}
use Rattle.proof_log.specs.declared.line.Line.{Line}
use Rattle.run_task.specs.Answer.{Answer}
use Rattle.run_task.specs.Answer.TheVariants as answers
use Rattle.run_task.specs.Input.{Input}
use Rattle.run_task.specs.Problems.{each_alone}
use Rattle.run_task.specs.WriteStop.{WriteStop}
use Rattle.run_task.specs.WriteStop.TheVariants.{Put, Output, NoMemory}
use Rattle.run_task.specs.declared.task.Task.TheVariants as tasks
use Rattle.run_output.specs.Answers.{KeepsWhole, Writes}
use Rattle.run_output.specs.Each.{AreAnswersOf, HoldsFrom, log_of_all, outcome_of_all}
use Rattle.run_output.specs.EachPuts.{LeavesEach}
use Rattle.run_output.specs.Evidence.{evidence}
use Rattle.run_output.specs.Kept.{KeepsAny}
use Rattle.run_output.specs.declared.answer.Outcome.{Outcome}
use Rattle.run_output.specs.declared.answer.Outcome.TheVariants.{Solved, Unsolved, Undecided, Stale}

-- no answers are a better one than a lock file
never_stale : (found : List Answer) → Stale ≡ outcome_of_all found → ⊥
never_stale [] is = let no : Stale ≡ Solved = is in cc
never_stale (answers.Best graph log ∷ more) is = never_stale more is
never_stale (answers.Nothing log ∷ more) is = let no : Stale ≡ Unsolved = is in cc
never_stale (answers.Undecided log ∷ more) is = let no : Stale ≡ Undecided = is in cc

module _ (dir cert : List ℕ) (input : Input) (before after : Option Files) (said more : Option (List ℕ)) (found : List Answer)
    (each : AreAnswersOf evidence input.problem found) where
  -- answers that were found, and written
  pub all_written : (result : Result Outcome WriteStop) → LeavesEach dir input.problem found before after said more result
      → Writes evidence dir cert (tasks.Each input) before after said more result
  all_written (Ok Solved) (is, files, out) = record { found = found; each = each; is_outcome = is; files = files; out = out }
  all_written (Ok Unsolved) (is, files, out) = record { found = found; each = each; is_outcome = is; files = files; out = out }
  all_written (Ok Undecided) (is, files, out) = record { found = found; each = each; is_outcome = is; files = files; out = out }
  all_written (Ok Stale) (is, files, out) = absurd (never_stale found is)
  all_written (Err (Put at)) (half, unsaid) = (record { found = found; each = each; half = half }, unsaid)
  all_written (Err Output) (files, out) = record { found = found; each = each; files = files; out = out }
  all_written (Err NoMemory) left = left

  -- what it keeps of the files at any end
  pub all_held : (after ≡ before) ⊎ HoldsFrom dir 0 (each_alone input.problem) found before after
      → (after ≡ before) ⊎ KeepsWhole evidence dir cert (tasks.Each input) before after
  all_held (inl same) = inl same
  all_held (inr held) = inr (record { found = found; each = each; held = held })

  -- and of the logs
  pub all_kept : (kept : List Line) (result : Result Outcome WriteStop) → kept ≡ log_of_all found
      → LeavesEach dir input.problem found before after said more result
      → KeepsAny dir cert (tasks.Each input) before after said more kept result
  all_kept kept (Ok outcome) lines (is, files, out) =
      record { found = found; each = each; is_outcome = is; files = files; lines = lines }
  all_kept kept (Err (Put at)) lines left = record { found = found; each = each; lines = lines }
  all_kept kept (Err Output) lines left = record { found = found; each = each; lines = lines }
  all_kept kept (Err NoMemory) lines left = inr (record { found = found; each = each; lines = lines })
