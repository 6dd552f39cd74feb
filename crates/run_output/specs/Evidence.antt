-- What shows an answer: the log of a search over clauses of the problem.
use Rattle.run_task.specs.Problems.{Problem}
use Rattle.run_task.specs.Answers.{IsAnswer}
use Rattle.run_task.specs.Answer.{Answer}
use Rattle.run_task.specs.Certificates.{log_verdict}
use Rattle.run_task.specs.Explanations.{Explains}
use Rattle.run_task.specs.Explanation.{Explanation}
use Rattle.run_task.specs.Grounds.{RestsOn}
use Rattle.run_task.specs.LeastExplanation.{LeastExplanation}
use Rattle.run_task.specs.LeastLists.{ExplainsLeast, LeastRestsOn}
use Rattle.run_output.specs.Senses.{Sense}

-- the answer means what it says within the budget of the settings, and its log shows it over
-- clauses of the problem
abbrev pub IsFor : Problem → Answer → Type 0
IsFor problem answer = IsAnswer problem problem.settings.conflict_budget answer

-- the explanation means what it says, and rests on a log over the clauses of the rules
pub record IsGrounded (problem : Problem) (explanation : Explanation) : Type 0 where
  pub means : Explains problem problem.settings.conflict_budget explanation
  pub rests : RestsOn problem problem.settings.conflict_budget explanation

-- so does one that is least, where a budget was spent
pub record IsGroundedLeast (problem : Problem) (explanation : LeastExplanation) : Type 0 where
  pub means : ExplainsLeast problem problem.settings.conflict_budget explanation
  pub rests : LeastRestsOn problem problem.settings.conflict_budget explanation

-- what is meant, and shown; and of certificates what their logs say
abbrev pub evidence : Sense
evidence = record { answers = IsFor; explains = IsGrounded; explains_least = IsGroundedLeast; verdicts = log_verdict }
