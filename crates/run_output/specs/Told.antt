-- What is said of a task that puts no file.
use Rattle.std.specs.Prelude.{◌≡◌, ℕ, true, List, Option}
use Rattle.outside_desk.specs.Files.{Files, and_said, SaysPart}
use Rattle.graph_core.specs.Graphs.{Text, Content}
use Rattle.proof_log.specs.declared.line.Line.{Line}
use Rattle.spec_find.specs.Found.{AreFound}
use Rattle.install_plan.specs.Plans.{IsPlan}
use Rattle.run_task.specs.Problems.{Problem, world_of}
use Rattle.run_task.specs.Costs.{vector, smaller}
use Rattle.run_task.specs.Query.{Query}
use Rattle.run_task.specs.declared.task.Task.{Task}
use Rattle.run_task.specs.declared.task.Task.TheVariants as tasks
use Rattle.run_task.specs.Answer.{Answer}
use Rattle.run_task.specs.Answer.TheVariants as answers
use Rattle.run_task.specs.Explanation.{Explanation}
use Rattle.run_task.specs.LeastExplanation.{LeastExplanation}
use Rattle.run_output.specs.LeastTexts.{least_explanation_text, least_outcome}
use Rattle.run_output.specs.Senses.{Sense}
use Rattle.run_output.specs.Report.{found_text, plan_text}
use Rattle.run_output.specs.Texts.{
  accepted_line,
  explanation_outcome,
  explanation_text,
  fresh_text,
  outcome_of,
  stale_text,
  trial_text,
  undecided_line,
  verdict_text,
}
use Rattle.run_output.specs.declared.answer.Outcome.{Outcome}
use Rattle.run_output.specs.declared.answer.Outcome.TheVariants as outcomes

-- why there is no graph, or that there is one, was found within the budget of the settings
pub record IsExplained (sense : Sense) (problem : Problem) (outcome : Outcome) (text : List ℕ) : Type 0 where
  pub explanation : Explanation
  pub explains : sense.explains problem explanation
  pub is_outcome : outcome ≡ explanation_outcome explanation
  pub is_text : text ≡ explanation_text problem explanation

-- it was found by a list of demands of which none can be left out, each with a graph that is valid
-- for all others
pub record IsReduced (sense : Sense) (problem : Problem) (outcome : Outcome) (text : List ℕ) : Type 0 where
  pub explanation : LeastExplanation
  pub explains : sense.explains_least problem explanation
  pub is_outcome : outcome ≡ least_outcome explanation
  pub is_text : text ≡ least_explanation_text problem explanation

-- the best graph of a made input was looked for
pub record IsTried (sense : Sense) (problem : Problem) (outcome : Outcome) (text : List ℕ) : Type 0 where
  pub answer : Answer
  pub found : sense.answers problem answer
  pub is_outcome : outcome ≡ outcome_of answer
  pub is_text : text ≡ trial_text problem answer

-- a best graph was found within the budget of the settings, and costs just as much
pub record IsStillBest (sense : Sense) (problem : Problem) (numbers text : List ℕ) : Type 0 where
  pub graph : Content
  pub log : List Line
  pub best : sense.answers problem (answers.Best graph log)
  pub same : vector problem graph ≡ numbers
  pub is_text : text ≡ fresh_text numbers

-- one was found, and costs less
pub record IsOutdoneBy (sense : Sense) (problem : Problem) (numbers text : List ℕ) : Type 0 where
  pub graph : Content
  pub log : List Line
  pub best : sense.answers problem (answers.Best graph log)
  pub less : smaller (vector problem graph) numbers ≡ true
  pub is_text : text ≡ stale_text (vector problem graph)

-- the budget was spent
pub record IsUncompared (sense : Sense) (problem : Problem) (text : List ℕ) : Type 0 where
  pub log : List Line
  pub spent : sense.answers problem (answers.Undecided log)
  pub is_text : text ≡ undecided_line problem.settings.conflict_budget

-- the best graph was looked for, and compared with these costs, which some valid graph has
abbrev pub IsCompared : Sense → Problem → List ℕ → Outcome → List ℕ → Type 0
IsCompared sense problem numbers outcomes.Solved text = IsStillBest sense problem numbers text
IsCompared sense problem numbers outcomes.Stale text = IsOutdoneBy sense problem numbers text
IsCompared sense problem numbers outcomes.Undecided text = IsUncompared sense problem text
IsCompared sense problem numbers outcomes.Unsolved text = ⊥

-- exactly the installed packages that meet the condition were found
pub record IsLookedFor (query : Query) (outcome : Outcome) (text : List ℕ) : Type 0 where
  pub places : List ℕ
  pub found : AreFound (world_of query.problem) query.problem.database query.spec places
  pub is_outcome : outcome ≡ outcomes.Solved
  pub is_text : text ≡ found_text query.problem.database places

-- the earliest order in which the graph can be built was made, with a chain that shows that none is
-- shorter
pub record IsPlanned (graph : Content) (outcome : Outcome) (text : List ℕ) : Type 0 where
  pub waves : List (List Text)
  pub chain : List Text
  pub plan : IsPlan graph waves chain
  pub is_outcome : outcome ≡ outcomes.Solved
  pub is_text : text ≡ plan_text waves chain

-- what may be said of a task, and what it then came to
abbrev pub Tells : Sense → Task → Outcome → List ℕ → Type 0
Tells sense (tasks.Solve input) outcome text = ⊥
Tells sense (tasks.Each input) outcome text = ⊥
Tells sense (tasks.Report numbers) outcome text = (outcome ≡ outcomes.Solved) × (text ≡ verdict_text numbers)
Tells sense tasks.Accepted outcome text = (outcome ≡ outcomes.Solved) × (text ≡ accepted_line)
Tells sense (tasks.Explain input) outcome text = IsExplained sense input.problem outcome text
Tells sense (tasks.Reasons input) outcome text = IsReduced sense input.problem outcome text
Tells sense (tasks.Try input) outcome text = IsTried sense input.problem outcome text
Tells sense (tasks.Compare input numbers) outcome text = IsCompared sense input.problem numbers outcome text
Tells sense (tasks.Find query) outcome text = IsLookedFor query outcome text
Tells sense (tasks.Plan graph) outcome text = IsPlanned graph outcome text

-- it was said, and no file changed
pub record IsTold (sense : Sense) (task : Task) (outcome : Outcome) (before after : Option Files)
    (out_before out_after : Option (List ℕ)) : Type 0 where
  pub text : List ℕ
  pub tells : Tells sense task outcome text
  pub files : after ≡ before
  pub out : out_after ≡ and_said out_before text

-- the sink failed: no file changed, and a front of it was said
pub record IsHalfTold (sense : Sense) (task : Task) (before after : Option Files) (out_before out_after : Option (List ℕ)) : Type 0 where
  pub outcome : Outcome
  pub text : List ℕ
  pub tells : Tells sense task outcome text
  pub files : after ≡ before
  pub out : SaysPart out_before out_after text
