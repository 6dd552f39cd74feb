-- The rules of rows: of directives at nodes to build, and of requirements of the settings.
use Rattle.std.specs.Prelude.{Bool, ◌&&◌, ℕ, List, not, map, filter, flat_map}
use Rattle.recipe_data.specs.declared.recipe.DependRow.{DependRow}
use Rattle.recipe_data.specs.declared.recipe.RequireRow.{RequireRow}
use Rattle.graph_core.specs.Graphs.{Text, Content}
use Rattle.graph_core.specs.declared.node.Node.{Node}
use Rattle.condition_rules.specs.Words.{implies}
use Rattle.problem.specs.Nodes.{is_built}
use Rattle.problem.specs.Problems.{Problem, requirements_at, required_at}
use Rattle.problem.specs.declared.demand.Demand.TheVariants as demand
use Rattle.graph_rules.specs.Directives.{keeps_edge, keeps_constraint, keeps_requirement}
use Rattle.graph_rules.specs.Verdict.{Place, keeps_asked_row, keeps_asked_setting}
use Rattle.graph_judge.specs.Judging.{Judging, asked}
use Rattle.graph_judge.specs.Places.{unless}
use Rattle.graph_judge.specs.declared.rows.DependRule.{DependRule}
use Rattle.graph_judge.specs.declared.rows.DependRule.TheVariants as depends
use Rattle.graph_judge.specs.declared.rows.RequireRule.{RequireRule}
use Rattle.graph_judge.specs.declared.rows.RequireRule.TheVariants as requires

-- ---- of any list of rows

-- where a row fails its test at a node
abbrev pub broken_at : {R : Type 0} → (Text → List R) → (R → ℕ) → (Node → R → Bool) → Content → List Place
broken_at rows_at number test graph =
    flat_map (λ node. map (λ row. (node.name, number row)) (filter (λ row. not (test node row)) (rows_at node.name))) graph.nodes

-- the same, element after element
abbrev pub row_places : {R : Type 0} → (R → ℕ) → (Node → R → Bool) → Node → List R → List Place
row_places number test node rows = flat_map (λ row. unless (test node row) (node.name, number row)) rows

abbrev pub rows_places : {R : Type 0} → (Text → List R) → (R → ℕ) → (Node → R → Bool) → List Node → List Place
rows_places rows_at number test nodes = flat_map (λ node. row_places number test node (rows_at node.name)) nodes

-- ---- the rules

-- a directive passes its test at a node to build, or is not asked there
abbrev pub keeps_directive : {R : Type 0} → (R → ℕ) → (Problem → Content → Node → R → Bool) → Judging → Node → R → Bool
keeps_directive number test j node row = implies (is_built node) (keeps_asked_row (asked j) number (test j.problem j.graph) node row)

-- a `depends_on` is kept in its edge, or in what it asks of the child
abbrev pub keeps_depend : DependRule → Problem → Content → Node → DependRow → Bool
keeps_depend depends.Edge = keeps_edge
keeps_depend depends.Constraint = keeps_constraint

abbrev pub requires_at : RequireRule → Problem → Text → List RequireRow
requires_at requires.Recipe = requirements_at
requires_at requires.Settings = required_at

abbrev pub keeps_require : RequireRule → Judging → Node → RequireRow → Bool
keeps_require requires.Recipe j node row = keeps_directive (λ r. r.number) keeps_requirement j node row
keeps_require requires.Settings j node row = keeps_asked_setting (asked j) (keeps_requirement j.problem j.graph) node row

abbrev pub asks_require : RequireRule → Judging → Node → ℕ → Bool
asks_require requires.Recipe j node number = is_built node && (asked j) (demand.Directive node.name number)
asks_require requires.Settings j node number = (asked j) (demand.Setting node.name number)
