-- What is kept of a search: the log of its answer.
use Rattle.std.specs.Prelude.{◌≡◌, ◌⊎◌, ℕ, List, [], Option, Result, Ok, Err}
use Rattle.outside_desk.specs.Files.{Files, and_said}
use Rattle.proof_log.specs.declared.line.Line.{Line}
use Rattle.run_task.specs.Problems.{Problem}
use Rattle.run_task.specs.Answers.{log_of}
use Rattle.run_task.specs.Answer.{Answer}
use Rattle.run_task.specs.Explanation.{Explanation}
use Rattle.run_task.specs.LeastExplanation.{LeastExplanation}
use Rattle.run_task.specs.WriteStop.{WriteStop}
use Rattle.run_task.specs.WriteStop.TheVariants as writes
use Rattle.run_task.specs.declared.task.Task.{Task}
use Rattle.run_task.specs.declared.task.Task.TheVariants as tasks
use Rattle.run_output.specs.Put.{files_with}
use Rattle.run_output.specs.Each.{AreAnswersOf, files_of_each, log_of_all, outcome_of_all}
use Rattle.run_output.specs.Evidence.{IsFor, IsGrounded, IsGroundedLeast, evidence}
use Rattle.run_output.specs.LeastTexts.{least_explanation_text, least_log, least_outcome}
use Rattle.run_output.specs.Texts.{explanation_log, explanation_outcome, explanation_text, outcome_of, trial_text}
use Rattle.run_output.specs.declared.answer.Outcome.{Outcome}

-- these are the lines of the log of an answer of the problem
pub record IsLogOf (problem : Problem) (kept : List Line) : Type 0 where
  pub answer : Answer
  pub found : IsFor problem answer
  pub lines : kept ≡ log_of answer

-- these are the lines of the log that spent the budget over the clauses of some demands; where none
-- was spent, there is no line
pub record IsLeastLog (problem : Problem) (kept : List Line) : Type 0 where
  pub explanation : LeastExplanation
  pub explains : IsGroundedLeast problem explanation
  pub lines : kept ≡ least_log explanation

-- the log of the first root without a graph, of answers of all roots; where each has one, there is
-- no line
pub record IsLogOfAll (problem : Problem) (kept : List Line) : Type 0 where
  pub found : List Answer
  pub each : AreAnswersOf evidence problem found
  pub lines : kept ≡ log_of_all found

-- the same where the files of all roots were put, and they came to this
pub record IsPutLogOfAll (dir : List ℕ) (problem : Problem) (outcome : Outcome) (before after : Option Files)
    (kept : List Line) : Type 0 where
  pub found : List Answer
  pub each : AreAnswersOf evidence problem found
  pub is_outcome : outcome ≡ outcome_of_all found
  pub files : after ≡ files_of_each dir problem found before
  pub lines : kept ≡ log_of_all found

-- these are the lines of the log on which an explanation of the problem rests; where some graph is
-- valid, there is no line
pub record IsReasonLog (problem : Problem) (kept : List Line) : Type 0 where
  pub explanation : Explanation
  pub explains : IsGrounded problem explanation
  pub lines : kept ≡ explanation_log explanation

-- the log of what was searched for the task; of a task that has no search, and of one that
-- compares, no line
abbrev pub HoldsLog : Task → List Line → Type 0
HoldsLog (tasks.Solve input) kept = IsLogOf input.problem kept
HoldsLog (tasks.Each input) kept = IsLogOfAll input.problem kept
HoldsLog (tasks.Try input) kept = IsLogOf input.problem kept
HoldsLog (tasks.Explain input) kept = IsReasonLog input.problem kept
HoldsLog (tasks.Reasons input) kept = IsLeastLog input.problem kept
HoldsLog task kept = kept ≡ []

-- the log of an answer that came to this, and of which this is said
pub record IsLogTo (problem : Problem) (outcome : Outcome) (text : List ℕ) (kept : List Line) : Type 0 where
  pub answer : Answer
  pub found : IsFor problem answer
  pub is_outcome : outcome ≡ outcome_of answer
  pub is_text : text ≡ trial_text problem answer
  pub lines : kept ≡ log_of answer

-- the same of an explanation
pub record IsReasonLogTo (problem : Problem) (outcome : Outcome) (text : List ℕ) (kept : List Line) : Type 0 where
  pub explanation : Explanation
  pub explains : IsGrounded problem explanation
  pub is_outcome : outcome ≡ explanation_outcome explanation
  pub is_text : text ≡ explanation_text problem explanation
  pub lines : kept ≡ explanation_log explanation

-- the same of a least list
pub record IsLeastLogTo (problem : Problem) (outcome : Outcome) (text : List ℕ) (kept : List Line) : Type 0 where
  pub explanation : LeastExplanation
  pub explains : IsGroundedLeast problem explanation
  pub is_outcome : outcome ≡ least_outcome explanation
  pub is_text : text ≡ least_explanation_text problem explanation
  pub lines : kept ≡ least_log explanation

-- it was said: so a log that is kept is that of the counts, of the demands, or over the clauses of
-- the demands on the sink
pub record IsToldLog (By : List ℕ → Type 0) (said more : Option (List ℕ)) : Type 0 where
  pub text : List ℕ
  pub log : By text
  pub out : more ≡ and_said said text

-- the log of the answer whose files were put
pub record IsPutLog (lock cert : List ℕ) (problem : Problem) (outcome : Outcome) (before after : Option Files)
    (kept : List Line) : Type 0 where
  pub answer : Answer
  pub found : IsFor problem answer
  pub is_outcome : outcome ≡ outcome_of answer
  pub files : after ≡ files_with lock cert problem answer before
  pub lines : kept ≡ log_of answer

-- what is kept of a task that came to this, where the files were and are so, and what was said so
abbrev pub KeepsLog : List ℕ → List ℕ → Task → Outcome → Option Files → Option Files → Option (List ℕ) → Option (List ℕ)
    → List Line → Type 0
KeepsLog lock cert (tasks.Solve input) outcome before after said more kept = IsPutLog lock cert input.problem outcome before after kept
KeepsLog dir cert (tasks.Each input) outcome before after said more kept = IsPutLogOfAll dir input.problem outcome before after kept
KeepsLog lock cert (tasks.Try input) outcome before after said more kept =
    IsToldLog (λ text. IsLogTo input.problem outcome text kept) said more
KeepsLog lock cert (tasks.Explain input) outcome before after said more kept =
    IsToldLog (λ text. IsReasonLogTo input.problem outcome text kept) said more
KeepsLog lock cert (tasks.Reasons input) outcome before after said more kept =
    IsToldLog (λ text. IsLeastLogTo input.problem outcome text kept) said more
KeepsLog lock cert task outcome before after said more kept = kept ≡ []

-- what is kept at any end of writing: where memory ran out, there may be no answer
abbrev pub KeepsAny : List ℕ → List ℕ → Task → Option Files → Option Files → Option (List ℕ) → Option (List ℕ) → List Line
    → Result Outcome WriteStop → Type 0
KeepsAny lock cert task before after said more kept (Ok outcome) = KeepsLog lock cert task outcome before after said more kept
KeepsAny lock cert task before after said more kept (Err writes.NoMemory) = (kept ≡ []) ⊎ HoldsLog task kept
KeepsAny lock cert task before after said more kept (Err other) = HoldsLog task kept
