-- What is said of answers.
use Rattle.std.specs.Prelude.{Bool, true, false, ℕ, List, [], ◌∷◌, ◌++◌, length, codes, decimal}
use Rattle.graph_core.specs.Graphs.{Content}
use Rattle.proof_log.specs.Lines.{learnt_in}
use Rattle.proof_log.specs.declared.line.Line.{Line}
use Rattle.proof_log.specs.declared.line.Line.TheVariants.{Learnt}
use Rattle.run_task.specs.Problems.{Problem}
use Rattle.run_task.specs.Costs.{vector}
use Rattle.run_task.specs.Answer.{Answer}
use Rattle.run_task.specs.Answer.TheVariants as answers
use Rattle.run_task.specs.Explanation.{Explanation}
use Rattle.run_task.specs.Explanation.TheVariants as explanations
use Rattle.run_answers.specs.Texts.{reasons_text}
use Rattle.run_output.specs.Report.{report_text, vector_line}
use Rattle.run_output.specs.declared.answer.Outcome.{Outcome}
use Rattle.run_output.specs.declared.answer.Outcome.TheVariants as outcomes

-- ---- the answer of a problem

unfoldable pub unsatisfiable_line : List ℕ
unsatisfiable_line = codes "unsatisfiable\n"

unfoldable pub undecided_line : ℕ → List ℕ
undecided_line budget = codes "undecided " ++ (decimal budget ++ 10 ∷ [])

-- what is said of a graph: its nodes, and its cost vector
abbrev pub graph_text : Problem → Content → List ℕ
graph_text problem graph = report_text graph.nodes (vector problem graph)

abbrev pub text_of_answer : Problem → Answer → List ℕ
text_of_answer problem (answers.Best graph log) = graph_text problem graph
text_of_answer problem (answers.Nothing log) = unsatisfiable_line
text_of_answer problem (answers.Undecided log) = undecided_line problem.settings.conflict_budget

abbrev pub outcome_of : Answer → Outcome
outcome_of (answers.Best graph log) = outcomes.Solved
outcome_of (answers.Nothing log) = outcomes.Unsolved
outcome_of (answers.Undecided log) = outcomes.Undecided

-- ---- of the other commands

-- what is said of a lock file whose graph is valid
unfoldable pub verdict_text : List ℕ → List ℕ
verdict_text numbers = codes "valid\n" ++ vector_line numbers

-- of one that is still the best
unfoldable pub fresh_text : List ℕ → List ℕ
fresh_text numbers = codes "fresh\n" ++ vector_line numbers

-- of one that is not: the costs of a better graph
unfoldable pub stale_text : List ℕ → List ℕ
stale_text numbers = codes "stale\n" ++ vector_line numbers

-- and of a certificate that is right
unfoldable pub accepted_line : List ℕ
accepted_line = codes "accepted\n"

unfoldable pub satisfiable_line : List ℕ
satisfiable_line = codes "satisfiable\n"

-- whether there is a graph, and else a line for each demand that stands against one
abbrev pub explanation_text : Problem → Explanation → List ℕ
explanation_text problem explanations.Satisfiable = satisfiable_line
explanation_text problem (explanations.Unmet demands log) = reasons_text problem demands
explanation_text problem (explanations.Undecided log) = undecided_line problem.settings.conflict_budget

abbrev pub explanation_outcome : Explanation → Outcome
explanation_outcome explanations.Satisfiable = outcomes.Solved
explanation_outcome (explanations.Unmet demands log) = outcomes.Unsolved
explanation_outcome (explanations.Undecided log) = outcomes.Undecided

-- the log on which it rests: where there is a graph no line
abbrev pub explanation_log : Explanation → List Line
explanation_log explanations.Satisfiable = []
explanation_log (explanations.Unmet demands log) = log
explanation_log (explanations.Undecided log) = log

abbrev pub is_learnt : Line → Bool
is_learnt (Learnt id c chain) = true
is_learnt other = false

unfoldable pub nodes_line : ℕ → List ℕ
nodes_line count = codes "nodes " ++ (decimal count ++ 10 ∷ [])

unfoldable pub learnt_line : ℕ → List ℕ
learnt_line count = codes "learnt " ++ (decimal count ++ 10 ∷ [])

-- the number of nodes, the cost vector, and how many clauses were learnt
unfoldable pub counts_text : ℕ → List ℕ → ℕ → List ℕ
counts_text nodes numbers learnt = nodes_line nodes ++ (vector_line numbers ++ learnt_line learnt)

-- what is said of a trial
abbrev pub trial_text : Problem → Answer → List ℕ
trial_text problem (answers.Best graph log) = counts_text (length graph.nodes) (vector problem graph) (learnt_in log)
trial_text problem (answers.Nothing log) = unsatisfiable_line
trial_text problem (answers.Undecided log) = undecided_line problem.settings.conflict_budget
