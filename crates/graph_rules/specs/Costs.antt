-- What a graph costs.
use Rattle.std.specs.Prelude.{Bool, ℕ, ◌-◌, ◌^◌, not, List, [], ◌∷◌, ◌++◌, map, filter, length, min, sum_by, count_by, Option, Some, None, if◌then◌else◌}
use Rattle.std.specs.List.{list_any}
use Rattle.std.specs.Str.{bytes_eq}
use Rattle.std.specs.Ordering.{nat_cmp, is_lt}
use Rattle.std.specs.Cmp.Lexicographic.{slice_cmp}
use Rattle.graph_core.specs.Graphs.{Text, Content, node_of, edges_from}
use Rattle.condition_rules.specs.Words.{is_one_text, is_some_and}
use Rattle.problem.specs.Nodes.{is_built}
use Rattle.graph_core.specs.declared.node.Node.{Node}
use Rattle.condition_rules.specs.Holds.{governing}
use Rattle.recipe_data.specs.declared.recipe.VariantRow.{VariantRow}
use Rattle.problem.specs.Problems.{world_of, same_compiler, Problem}
use Rattle.graph_rules.specs.declared.criterion.TheConstants.{CRITERIA}
use Rattle.graph_rules.specs.declared.criterion.Attribute.{Attribute}
use Rattle.graph_rules.specs.declared.criterion.Attribute.TheVariants as attributes
use Rattle.graph_rules.specs.declared.criterion.Summed.{Summed}
use Rattle.graph_rules.specs.declared.criterion.Summed.TheVariants as summands
use Rattle.graph_rules.specs.declared.criterion.Criterion.{Criterion}
use Rattle.graph_rules.specs.declared.criterion.Criterion.TheVariants as kinds
use Rattle.graph_rules.specs.Weights.{version_weight, is_deprecated, os_weight, target_weight, compiler_weight, provider_weight}

-- ---- what one node costs

-- a requested spec has its name
abbrev pub is_root : Problem → Node → Bool
is_root problem node = list_any (λ spec. is_some_and spec.top.name (bytes_eq node.name)) problem.roots

-- how many of the first texts are none of the second
abbrev pub missing : List Text → List Text → ℕ
missing texts others = count_by (λ text. not (is_one_text others text)) texts

abbrev pub beside_default : (List Text → List Text → ℕ) → List Text → Option VariantRow → ℕ
beside_default count values None = 0
beside_default count values (Some row) = count values row.default

-- a count over the values and the default values of each variant of a node with a governing definition
abbrev pub over_variants : (List Text → List Text → ℕ) → Problem → Content → Node → ℕ
over_variants count problem graph node =
    sum_by (λ v. beside_default count v.1 (governing (world_of problem) graph node.name v.0)) node.variants

unfoldable pub other_values : Problem → Content → Node → ℕ
other_values = over_variants (λ values default. missing values default)

unfoldable pub unused_defaults : Problem → Content → Node → ℕ
unused_defaults = over_variants (λ values default. missing default values)

-- the weights of the virtuals whose provider it is
unfoldable pub provider_weights : Problem → Content → Node → ℕ
provider_weights problem graph node = sum_by (provider_weight problem) (filter (λ p. bytes_eq p.1 node.name) graph.providers)

-- how many of its edges go to a node that differs from it
abbrev pub edges_to : (Node → Node → Bool) → Content → Node → ℕ
edges_to differs graph node = count_by (λ e. is_some_and (node_of graph e.child) (differs node)) (edges_from graph node.name)

-- an absent compiler differs from none
abbrev pub differ_in_compiler : Node → Node → Bool
differ_in_compiler a b = is_some_and a.compiler (λ c. is_some_and b.compiler (λ d. not (same_compiler c d)))

abbrev pub differ_in_os : Node → Node → Bool
differ_in_os a b = not (bytes_eq a.os b.os)

abbrev pub differ_in_target : Node → Node → Bool
differ_in_target a b = not (bytes_eq a.target b.target)

-- ---- the criteria

abbrev pub at_root : Problem → (Node → ℕ) → Node → ℕ
at_root problem cost node = if is_root problem node then cost node else 0

abbrev pub off_root : Problem → (Node → ℕ) → Node → ℕ
off_root problem cost node = if is_root problem node then 0 else cost node

-- in what the ends of an edge may differ
abbrev pub differs : Attribute → Node → Node → Bool
differs attributes.Compiler a b = differ_in_compiler a b
differs attributes.Os a b = differ_in_os a b
differs attributes.Target a b = differ_in_target a b

-- what a node adds to a sum over all nodes
unfoldable pub summed_cost : Problem → Content → Summed → Node → ℕ
summed_cost problem graph summands.Node node = 1
summed_cost problem graph summands.Deprecated node = if is_deprecated problem node.name node.version then 1 else 0
summed_cost problem graph summands.Version node = version_weight problem node.name node.version
summed_cost problem graph summands.OtherValues node = other_values problem graph node
summed_cost problem graph summands.UnusedDefaults node = unused_defaults problem graph node
summed_cost problem graph summands.Providers node = provider_weights problem graph node
summed_cost problem graph (summands.Edges attribute) node = edges_to (differs attribute) graph node
summed_cost problem graph summands.Os node = os_weight problem node.os
summed_cost problem graph summands.Target node = target_weight problem node.target
summed_cost problem graph summands.Compiler node = compiler_weight problem node.compiler

-- what one node adds to a criterion
abbrev pub cost_of : Problem → Content → Criterion → Node → ℕ
cost_of problem graph (kinds.All summed) node = summed_cost problem graph summed node
cost_of problem graph (kinds.Roots summed) node = at_root problem (summed_cost problem graph summed) node
cost_of problem graph (kinds.Others summed) node = off_root problem (summed_cost problem graph summed) node

-- the criteria of the table, each by what one node adds to it
unfoldable pub criteria : Problem → Content → List (Node → ℕ)
criteria problem graph = map (cost_of problem graph) CRITERIA

-- ---- the vector

-- a sum stops at the greatest number of 64 bits
abbrev pub stopped : ℕ → ℕ
stopped n = min n (2 ^ 64 - 1)

abbrev pub sums : Problem → Content → List Node → List ℕ
sums problem graph nodes = map (λ cost. stopped (sum_by cost nodes)) (criteria problem graph)

-- the criteria over the nodes to build, their number, and the criteria over the others
unfoldable pub vector : Problem → Content → List ℕ
vector problem graph =
    let builds = filter is_built graph.nodes in
    sums problem graph builds ++ stopped (length builds) ∷ sums problem graph (filter (λ node. not (is_built node)) graph.nodes)

-- the first number that differs decides
abbrev pub smaller : List ℕ → List ℕ → Bool
smaller a b = is_lt (slice_cmp nat_cmp a b)
