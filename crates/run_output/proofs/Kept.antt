-- What is kept of a search, by how writing ended.
use Rattle.std.proofs.Common.{◌≡◌, inr, ◌∙◌, ℕ, List, Option, Result, Ok, Err}
use Rattle.std.specs.Prelude.{IfOk}
use Rattle.outside_desk.specs.Files.{Files, and_said}
use Rattle.proof_log.specs.declared.line.Line.{Line}
use Rattle.run_task.specs.Answers.{log_of}
use Rattle.run_task.specs.Answer.{Answer}
use Rattle.run_task.specs.Input.{Input}
use Rattle.run_task.specs.WriteStop.{WriteStop}
use Rattle.run_task.specs.WriteStop.TheVariants.{Put, Output, NoMemory}
use Rattle.run_task.specs.declared.task.Task.TheVariants as tasks
use Rattle.run_output.specs.Answers.{Leaves}
use Rattle.run_output.specs.Kept.{IsLeastLogTo, IsLogTo, IsReasonLogTo, KeepsAny}
use Rattle.run_output.specs.Evidence.{IsFor}
use Rattle.run_output.specs.declared.answer.Outcome.{Outcome}

module _ (lock cert : List ℕ) (input : Input) (before after : Option Files) (said more : Option (List ℕ)) where
  -- an answer that was found, and written or not
  pub of_answer : (answer : Answer) (kept : List Line) (result : Result Outcome WriteStop) → IsFor input.problem answer
      → kept ≡ log_of answer → Leaves lock cert input.problem answer before after said more result
      → KeepsAny lock cert (tasks.Solve input) before after said more kept result
  of_answer answer kept (Ok outcome) found lines left =
      record { answer = answer; found = found; is_outcome = left.0; files = left.1; lines = lines }
  of_answer answer kept (Err (Put at)) found lines left = record { answer = answer; found = found; lines = lines }
  of_answer answer kept (Err Output) found lines left = record { answer = answer; found = found; lines = lines }
  of_answer answer kept (Err NoMemory) found lines left = inr (record { answer = answer; found = found; lines = lines })

module _ (lock cert : List ℕ) (input : Input) (before after : Option Files) (said more : Option (List ℕ)) where
  -- a trial
  pub of_trial : (outcome : Outcome) (text : List ℕ) (kept : List Line) (result : Result Outcome WriteStop)
      → IsLogTo input.problem outcome text kept → IfOk result (λ x. x ≡ outcome) → IfOk result (λ x. more ≡ and_said said text)
      → KeepsAny lock cert (tasks.Try input) before after said more kept result
  of_trial outcome text kept (Ok x) log same out = record {
    text = text;
    log = record {
      answer = log.answer;
      found = log.found;
      is_outcome = same ∙ log.is_outcome;
      is_text = log.is_text;
      lines = log.lines;
    };
    out = out;
  }
  of_trial outcome text kept (Err (Put at)) log same out = record { answer = log.answer; found = log.found; lines = log.lines }
  of_trial outcome text kept (Err Output) log same out = record { answer = log.answer; found = log.found; lines = log.lines }
  of_trial outcome text kept (Err NoMemory) log same out = inr (record { answer = log.answer; found = log.found; lines = log.lines })

  -- an explanation
  pub of_explanation : (outcome : Outcome) (text : List ℕ) (kept : List Line) (result : Result Outcome WriteStop)
      → IsReasonLogTo input.problem outcome text kept → IfOk result (λ x. x ≡ outcome) → IfOk result (λ x. more ≡ and_said said text)
      → KeepsAny lock cert (tasks.Explain input) before after said more kept result
  of_explanation outcome text kept (Ok x) log same out = record {
    text = text;
    log = record {
      explanation = log.explanation;
      explains = log.explains;
      is_outcome = same ∙ log.is_outcome;
      is_text = log.is_text;
      lines = log.lines;
    };
    out = out;
  }
  of_explanation outcome text kept (Err (Put at)) log same out =
      record { explanation = log.explanation; explains = log.explains; lines = log.lines }
  of_explanation outcome text kept (Err Output) log same out =
      record { explanation = log.explanation; explains = log.explains; lines = log.lines }
  of_explanation outcome text kept (Err NoMemory) log same out =
      inr (record { explanation = log.explanation; explains = log.explains; lines = log.lines })

  -- a least list
  pub of_least : (outcome : Outcome) (text : List ℕ) (kept : List Line) (result : Result Outcome WriteStop)
      → IsLeastLogTo input.problem outcome text kept → IfOk result (λ x. x ≡ outcome) → IfOk result (λ x. more ≡ and_said said text)
      → KeepsAny lock cert (tasks.Reasons input) before after said more kept result
  of_least outcome text kept (Ok x) log same out = record {
    text = text;
    log = record {
      explanation = log.explanation;
      explains = log.explains;
      is_outcome = same ∙ log.is_outcome;
      is_text = log.is_text;
      lines = log.lines;
    };
    out = out;
  }
  of_least outcome text kept (Err (Put at)) log same out =
      record { explanation = log.explanation; explains = log.explains; lines = log.lines }
  of_least outcome text kept (Err Output) log same out =
      record { explanation = log.explanation; explains = log.explains; lines = log.lines }
  of_least outcome text kept (Err NoMemory) log same out =
      inr (record { explanation = log.explanation; explains = log.explains; lines = log.lines })
