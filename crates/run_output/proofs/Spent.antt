-- Under which budgets a run is left undecided.
use Rattle.std.proofs.Common.{◌≡◌, ℕ, ◌<◌, ◌-◌, ◌^◌, List, [], ◌∷◌, map, Option}
use Rattle.outside_desk.specs.Files.{Files}
use Rattle.std.specs.List.{AllZip}
use Rattle.spec_grammar.specs.declared.part.Spec.{Spec}
use Rattle.run_task.specs.Problems.{Problem, alone}
use Rattle.run_output.specs.Each.{outcome_of_all}
use Rattle.run_task.specs.declared.task.Task.{Task}
use Rattle.run_task.specs.declared.task.Task.TheVariants as tasks
use Rattle.run_task.specs.Answer.{Answer}
use Rattle.run_task.specs.Answer.TheVariants as answers
use Rattle.run_task.specs.Explanations.{Explains}
use Rattle.run_task.specs.Explanation.{Explanation}
use Rattle.run_task.specs.Explanation.TheVariants as explanations
use Rattle.run_task.specs.LeastExplanation.{LeastExplanation}
use Rattle.run_task.specs.LeastExplanation.TheVariants as least
use Rattle.run_task.specs.LeastLists.{ExplainsLeast}
use Rattle.run_output.specs.Answers.{HasSpent}
use Rattle.run_output.specs.Budgets.{budget_of}
use Rattle.run_output.specs.LeastTexts.{least_outcome}
use Rattle.run_output.specs.Senses.{meaning}
use Rattle.run_output.specs.Texts.{explanation_outcome, outcome_of}
use Rattle.run_output.specs.declared.answer.Outcome.TheVariants.{Undecided}

of_answer : (problem : Problem) (answer : Answer) → meaning.answers problem answer → Undecided ≡ outcome_of answer
    → problem.settings.conflict_budget < 2 ^ 64 - 1
of_answer problem (answers.Best graph log) found is = absurd (cc)
of_answer problem (answers.Nothing log) found is = absurd (cc)
of_answer problem (answers.Undecided log) found is = found.1

of_explanation : (problem : Problem) (explanation : Explanation) → Explains problem problem.settings.conflict_budget explanation
    → Undecided ≡ explanation_outcome explanation → problem.settings.conflict_budget < 2 ^ 64 - 1
of_explanation problem explanations.Satisfiable explains is = absurd (cc)
of_explanation problem (explanations.Unmet demands log) explains is = absurd (cc)
of_explanation problem (explanations.Undecided log) explains is = explains

of_least : (problem : Problem) (explanation : LeastExplanation) → ExplainsLeast problem problem.settings.conflict_budget explanation
    → Undecided ≡ least_outcome explanation → problem.settings.conflict_budget < 2 ^ 64 - 1
of_least problem least.Satisfiable explains is = absurd (cc)
of_least problem (least.Least demands graphs) explains is = absurd (cc)
of_least problem (least.Undecided demands log) explains is = explains

-- of all roots: each has the settings of the whole
of_all : (problem : Problem) (roots : List Spec) (found : List Answer) → AllZip meaning.answers (map (alone problem) roots) found
    → Undecided ≡ outcome_of_all found → problem.settings.conflict_budget < 2 ^ 64 - 1
of_all problem [] [] each is = absurd (cc)
of_all problem [] (answer ∷ found) each is = absurd each
of_all problem (root ∷ roots) [] each is = absurd each
of_all problem (root ∷ roots) (answers.Best graph log ∷ found) each is = of_all problem roots found each.1 is
of_all problem (root ∷ roots) (answers.Nothing log ∷ found) each is = absurd (cc)
of_all problem (root ∷ roots) (answers.Undecided log ∷ found) each is = each.0.1

-- no budget of 2^64 - 1 is spent
pub spent_below : (lock cert : List ℕ) (task : Task) (before after : Option Files) (said more : Option (List ℕ))
    → HasSpent meaning lock cert task before after said more → budget_of task < 2 ^ 64 - 1
spent_below lock cert (tasks.Solve input) before after said more spent = spent.spent.1
spent_below dir cert (tasks.Each input) before after said more spent =
    of_all input.problem input.problem.roots spent.found spent.each spent.is_outcome
spent_below lock cert (tasks.Report numbers) before after said more spent = absurd (let e = spent.tells.0 in cc)
spent_below lock cert tasks.Accepted before after said more spent = absurd (let e = spent.tells.0 in cc)
spent_below lock cert (tasks.Explain input) before after said more spent =
    let t = spent.tells in of_explanation input.problem t.explanation t.explains t.is_outcome
spent_below lock cert (tasks.Reasons input) before after said more spent =
    let t = spent.tells in of_least input.problem t.explanation t.explains t.is_outcome
spent_below lock cert (tasks.Try input) before after said more spent =
    let t = spent.tells in of_answer input.problem t.answer t.found t.is_outcome
spent_below lock cert (tasks.Compare input numbers) before after said more spent = spent.tells.spent.1
spent_below lock cert (tasks.Find query) before after said more spent = absurd (let e = spent.tells.is_outcome in cc)
spent_below lock cert (tasks.Plan graph) before after said more spent = absurd (let e = spent.tells.is_outcome in cc)
