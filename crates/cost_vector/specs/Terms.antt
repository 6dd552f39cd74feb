-- What one node adds to each sum.
use Rattle.std.specs.Prelude.{Bool, true, false, ℕ, not, List, map, sum_by, if◌then◌else◌}
use Rattle.std.specs.Str.{bytes_eq}
use Rattle.graph_core.specs.Graphs.{Text, Content, node_of}
use Rattle.graph_core.specs.declared.node.Node.{Node}
use Rattle.graph_core.specs.declared.node.Edge.{Edge}
use Rattle.condition_rules.specs.Words.{is_some_and}
use Rattle.condition_rules.specs.Holds.{governing}
use Rattle.problem.specs.Nodes.{is_built}
use Rattle.problem.specs.Problems.{world_of, Problem}
use Rattle.graph_rules.specs.Weights.{provider_weight}
use Rattle.graph_rules.specs.Costs.{missing, beside_default, differs, cost_of, stopped}
use Rattle.graph_rules.specs.declared.criterion.TheConstants.{CRITERIA}
use Rattle.graph_rules.specs.declared.criterion.Attribute.{Attribute}
use Rattle.graph_rules.specs.declared.criterion.Criterion.{Criterion}

-- ---- one variant, provider or edge

-- the default values that are not used, or the values that are no default values
abbrev pub beside : Bool → List Text → List Text → ℕ
beside true values default = missing default values
beside false values default = missing values default

abbrev pub variant_cost : Bool → Problem → Content → Text → (Text × List Text) → ℕ
variant_cost defaults problem graph name v = beside_default (beside defaults) v.1 (governing (world_of problem) graph name v.0)

abbrev pub weight_at : Problem → Text → (Text × Text) → ℕ
weight_at problem name p = if bytes_eq p.1 name then provider_weight problem p else 0

abbrev pub edge_differs : Attribute → Content → Node → Edge → Bool
edge_differs attribute graph node e = is_some_and (node_of graph e.child) (differs attribute node)

-- ---- one node

-- the nodes to build, or the others
abbrev pub in_half : Bool → Node → Bool
in_half true node = is_built node
in_half false node = not (is_built node)

abbrev pub half_cost : Bool → (Node → ℕ) → Node → ℕ
half_cost built cost node = if in_half built node then cost node else 0

-- ---- all nodes

abbrev pub half_sum : Bool → Problem → Content → Criterion → ℕ
half_sum built problem graph criterion = stopped (sum_by (half_cost built (cost_of problem graph criterion)) graph.nodes)

abbrev pub half_sums : Bool → Problem → Content → List ℕ
half_sums built problem graph = map (half_sum built problem graph) CRITERIA
