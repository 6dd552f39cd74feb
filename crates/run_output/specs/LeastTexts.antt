-- What is said of a least list of demands: below each the graph that is valid for all others.
use Rattle.std.specs.Prelude.{ℕ, List, [], ◌∷◌, ◌++◌, codes}
use Rattle.std.specs.List.{flat_map}
use Rattle.graph_core.specs.Graphs.{Content}
use Rattle.graph_core.specs.declared.node.Node.{Node}
use Rattle.run_answers.specs.Texts.{reasons_text}
use Rattle.proof_log.specs.declared.line.Line.{Line}
use Rattle.run_task.specs.LeastExplanation.{LeastExplanation}
use Rattle.run_task.specs.LeastExplanation.TheVariants as least
use Rattle.run_task.specs.Problems.{Problem}
use Rattle.run_output.specs.Report.{node_line}
use Rattle.run_output.specs.Texts.{satisfiable_line, undecided_line}
use Rattle.run_output.specs.declared.answer.Outcome.{Outcome}
use Rattle.run_output.specs.declared.answer.Outcome.TheVariants as outcomes

-- a node, two spaces in
unfoldable pub inner_line : Node → List ℕ
inner_line node = codes "  " ++ node_line node

-- a graph without a node
unfoldable pub none_line : List ℕ
none_line = codes "  none\n"

-- the nodes of a graph
abbrev pub inner_text : List Node → List ℕ
inner_text [] = none_line
inner_text (node ∷ nodes) = inner_line node ++ flat_map inner_line nodes

-- a demand by its number among those of the problem
abbrev pub demand_text : Problem → ℕ → List ℕ
demand_text problem n = reasons_text problem (n ∷ [])

-- each demand, and below it the graph at its place
abbrev pub least_text : Problem → List ℕ → List Content → List ℕ
least_text problem [] graphs = []
least_text problem (n ∷ ns) [] = demand_text problem n ++ least_text problem ns []
least_text problem (n ∷ ns) (g ∷ gs) = demand_text problem n ++ (inner_text g.nodes ++ least_text problem ns gs)

-- the demands that were not decided, and the budget
abbrev pub open_text : Problem → List ℕ → List ℕ
open_text problem demands = reasons_text problem demands ++ undecided_line problem.settings.conflict_budget

-- whether there is a graph, and else a least list
abbrev pub least_explanation_text : Problem → LeastExplanation → List ℕ
least_explanation_text problem least.Satisfiable = satisfiable_line
least_explanation_text problem (least.Least demands graphs) = least_text problem demands graphs
least_explanation_text problem (least.Undecided demands log) = open_text problem demands

abbrev pub least_outcome : LeastExplanation → Outcome
least_outcome least.Satisfiable = outcomes.Solved
least_outcome (least.Least demands graphs) = outcomes.Unsolved
least_outcome (least.Undecided demands log) = outcomes.Undecided

-- the log that spent the budget; where none was spent no line
abbrev pub least_log : LeastExplanation → List Line
least_log least.Satisfiable = []
least_log (least.Least demands graphs) = []
least_log (least.Undecided demands log) = log
