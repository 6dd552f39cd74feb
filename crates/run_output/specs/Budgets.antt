-- The budget of learnt clauses under which a task is answered.
use Rattle.std.specs.Prelude.{ℕ}
use Rattle.run_task.specs.declared.task.Task.{Task}
use Rattle.run_task.specs.declared.task.Task.TheVariants as tasks

-- what the settings give; a task that is read and not searched has none
abbrev pub budget_of : Task → ℕ
budget_of (tasks.Solve input) = input.problem.settings.conflict_budget
budget_of (tasks.Each input) = input.problem.settings.conflict_budget
budget_of (tasks.Report numbers) = 0
budget_of tasks.Accepted = 0
budget_of (tasks.Explain input) = input.problem.settings.conflict_budget
budget_of (tasks.Reasons input) = input.problem.settings.conflict_budget
budget_of (tasks.Try input) = input.problem.settings.conflict_budget
budget_of (tasks.Compare input numbers) = input.problem.settings.conflict_budget
budget_of (tasks.Find query) = 0
budget_of (tasks.Plan graph) = 0
