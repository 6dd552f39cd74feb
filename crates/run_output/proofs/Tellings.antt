-- What saying leaves, of a task that puts no file.
use Rattle.std.proofs.Common.{◌≡◌, ◌∙◌, refl, ap, cond, ℕ, ◌+◌, List, [], ◌∷◌, Option, Ok, Err}
use Rattle.std.specs.Prelude.{count_by}
use Rattle.std.proofs.lemmas.List.Sums.{sum_by-cons}
use Rattle.outside_desk.specs.Files.{Files, and_said, SaysPart}
use Rattle.run_task.specs.WriteStop.{WriteStop}
use Rattle.run_task.specs.WriteStop.TheVariants.{Put, Output, NoMemory}
use Rattle.run_task.specs.declared.task.Task.{Task}
use Rattle.run_task.specs.declared.task.Task.TheVariants as tasks
use Rattle.proof_log.specs.declared.line.Line.{Line}
use Rattle.proof_log.specs.declared.line.Line.TheVariants.{Header, Learnt, Zero, One, Unsat, Spent, End}
use Rattle.proof_log.specs.Lines.{learnt_count, learnt_in}
use Rattle.run_output.specs.Answers.{SaysText, Writes}
use Rattle.run_output.specs.Evidence.{evidence}
use Rattle.run_output.specs.Texts.{is_learnt}
use Rattle.run_output.specs.Told.{Tells, IsHalfTold}
use Rattle.run_output.specs.declared.answer.Outcome.{Outcome}
use Rattle.run_output.specs.declared.answer.Outcome.TheVariants.{Solved, Unsolved, Undecided, Stale}

module _ (lock cert : List ℕ) (files : Option Files) (said more : Option (List ℕ)) (text : List ℕ) where
  -- what was said whole
  pub told_writes : (task : Task) (outcome : Outcome) → Tells evidence task outcome text → more ≡ and_said said text
      → Writes evidence lock cert task files files said more (Ok outcome)
  told_writes (tasks.Solve input) outcome tells out = absurd tells
  told_writes (tasks.Each input) outcome tells out = absurd tells
  told_writes other Solved tells out = record { text = text; tells = tells; files = refl; out = out }
  told_writes other Unsolved tells out = record { text = text; tells = tells; files = refl; out = out }
  told_writes other Undecided tells out = record { text = text; tells = tells; files = refl; out = out }
  told_writes other Stale tells out = record { text = text; tells = tells; files = refl; out = out }

  half_told : (task : Task) (outcome : Outcome) → Tells evidence task outcome text → SaysPart said more text
      → IsHalfTold evidence task files files said more
  half_told task outcome tells part = record { outcome = outcome; text = text; tells = tells; files = refl; out = part }

  -- what was said in part
  pub told_stops : (task : Task) (outcome : Outcome) (stop : WriteStop) → Tells evidence task outcome text
      → SaysText text said more (Err stop)
      → Writes evidence lock cert task files files said more (Err stop)
  told_stops task outcome (Put at) tells says = absurd says
  told_stops (tasks.Solve input) outcome Output tells says = absurd tells
  told_stops (tasks.Each input) outcome Output tells says = absurd tells
  told_stops other outcome Output tells says = half_told other outcome tells says
  told_stops task outcome NoMemory tells says = says

-- ---- trials

one_line : (line : Line) → cond (is_learnt line) 1 0 ≡ learnt_count line
one_line (Header vars clauses bits) = refl
one_line (Learnt id c chain) = refl
one_line (Zero id b) = refl
one_line (One id b chain) = refl
one_line (Unsat chain) = refl
one_line Spent = refl
one_line End = refl

-- what is counted are the clauses that were learnt
pub counted : (lines : List Line) → count_by is_learnt lines ≡ learnt_in lines
counted [] = refl
counted (line ∷ lines) =
    sum_by-cons (λ (l : Line). cond (is_learnt l) 1 0) line lines ∙ ap (λ n. n + count_by is_learnt lines) (one_line line)
    ∙ ap (λ n. learnt_count line + n) (counted lines)
