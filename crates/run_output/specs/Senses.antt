-- In which sense an answer is one of the problem: by what it means, or besides by the log that
-- shows it (`Evidence.antt`).
--
-- What is said of a run stands for either sense.
use Rattle.run_task.specs.Problems.{Problem}
use Rattle.run_task.specs.Answers.{Means}
use Rattle.run_task.specs.Answer.{Answer}
use Rattle.run_task.specs.CertificateVerdicts.{CertificateVerdicts, any_verdict}
use Rattle.run_task.specs.Explanations.{Explains}
use Rattle.run_task.specs.Explanation.{Explanation}
use Rattle.run_task.specs.LeastExplanation.{LeastExplanation}
use Rattle.run_task.specs.LeastLists.{ExplainsLeast}

pub record Sense : Type 1 where
  -- which answers a problem has
  pub answers : Problem → Answer → Type 0
  -- which explanations it has
  pub explains : Problem → Explanation → Type 0
  -- which of those that are least
  pub explains_least : Problem → LeastExplanation → Type 0
  -- and what is said of certificates that are read
  pub verdicts : CertificateVerdicts

-- What is meant, within the budget of the settings: a graph is optimal, there is none, the budget
-- was spent; some graph is valid, or none is for these demands alone, and where these are least
-- none of them can be left out. Of a certificate any verdict may be said: what a yes shows is a
-- fact of its own (`IsShown`)
abbrev pub meaning : Sense
meaning = record {
  answers = λ problem answer. Means problem problem.settings.conflict_budget answer;
  explains = λ problem explanation. Explains problem problem.settings.conflict_budget explanation;
  explains_least = λ problem explanation. ExplainsLeast problem problem.settings.conflict_budget explanation;
  verdicts = any_verdict;
}
