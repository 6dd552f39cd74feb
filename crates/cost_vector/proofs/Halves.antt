-- The vector in its two halves.
use Rattle.std.proofs.Common.{◌≡◌, refl, sym, ap, ◌∙◌, Bool, true, false, ℕ, List, [], ◌∷◌, ◌++◌, map, length}
use Rattle.std.specs.List.{filter, sum_by}
use Rattle.std.proofs.lemmas.List.Sums.{length-filter}
use Rattle.std.proofs.lemmas.Simd.{map-map}
use Rattle.graph_core.specs.Graphs.{Content}
use Rattle.graph_core.specs.declared.node.Node.{Node}
use Rattle.problem.specs.Nodes.{is_built}
use Rattle.problem.specs.Problems.{Problem}
use Rattle.graph_rules.specs.Costs.{other_values, unused_defaults, provider_weights, stopped, summed_cost, cost_of, criteria, vector}
use Rattle.graph_rules.specs.declared.criterion.TheConstants.{CRITERIA}
use Rattle.graph_rules.specs.declared.criterion.Criterion.{Criterion}
use Rattle.graph_rules.specs.declared.criterion.Criterion.TheVariants as kinds
use Rattle.graph_rules.specs.declared.criterion.Summed.{Summed}
use Rattle.graph_rules.specs.declared.criterion.Summed.TheVariants as summands
use Rattle.std.specs.Str.{bytes_eq}
use Rattle.graph_rules.specs.Weights.{provider_weight}
use Rattle.cost_vector.specs.Terms.{variant_cost, weight_at, in_half, half_sum, half_sums}
use Rattle.cost_vector.proofs.Totals.{sum_filter}

-- ---- one sum at a node, by the list that it is summed over

-- values that are no default, summed over the variants
pub other_term : (summed : Summed) (problem : Problem) (graph : Content) (node : Node) → summed ≡ summands.OtherValues
    → sum_by (variant_cost false problem graph node.name) node.variants ≡ summed_cost problem graph summed node
unfolding summed_cost other_values
other_term summed problem graph node is = ap (λ t. summed_cost problem graph t node) (sym is)

-- defaults that are not used, summed over the variants
pub unused_term : (summed : Summed) (problem : Problem) (graph : Content) (node : Node) → summed ≡ summands.UnusedDefaults
    → sum_by (variant_cost true problem graph node.name) node.variants ≡ summed_cost problem graph summed node
unfolding summed_cost unused_defaults
unused_term summed problem graph node is = ap (λ t. summed_cost problem graph t node) (sym is)

-- weights of the providers, summed over all
pub provider_term : (summed : Summed) (problem : Problem) (graph : Content) (node : Node) → summed ≡ summands.Providers
    → sum_by (weight_at problem node.name) graph.providers ≡ summed_cost problem graph summed node
unfolding summed_cost provider_weights
provider_term summed problem graph node is =
    sum_filter (λ p. bytes_eq p.1 node.name) (provider_weight problem) graph.providers ∙ ap (λ t. summed_cost problem graph t node) (sym is)

-- ---- the vector

map_same : {X Y : Type 0} (f g : X → Y) → ((x : X) → f x ≡ g x) → (xs : List X) → map f xs ≡ map g xs
map_same f g same [] = refl
map_same f g same (x ∷ xs) = rw (same x, map_same f g same xs) refl

sums-of-half : (built : Bool) (problem : Problem) (graph : Content) (table : List Criterion)
    → map (half_sum built problem graph) table
    ≡ map (λ cost. stopped (sum_by cost (filter (in_half built) graph.nodes))) (map (cost_of problem graph) table)
sums-of-half built problem graph table =
    map_same (half_sum built problem graph) (λ c. stopped (sum_by (cost_of problem graph c) (filter (in_half built) graph.nodes)))
    (λ c. ap stopped (sum_filter (in_half built) (cost_of problem graph c) graph.nodes)) table
    ∙ sym (map-map (λ (cost : Node → ℕ). stopped (sum_by cost (filter (in_half built) graph.nodes))) (cost_of problem graph) table)

count : (problem : Problem) (graph : Content)
    → half_sum true problem graph (kinds.All summands.Node) ≡ stopped (length (filter is_built graph.nodes))
unfolding summed_cost
count problem graph = ap stopped (sym (length-filter is_built graph.nodes))

-- the two halves with the number of nodes between them are the vector
whole : (problem : Problem) (graph : Content) → half_sums true problem graph ++ half_sum true problem graph (kinds.All summands.Node)
    ∷ half_sums false problem graph ≡ vector problem graph
unfolding vector criteria
whole problem graph = λ i. sums-of-half true problem graph CRITERIA i ++ count problem graph i ∷ sums-of-half false problem graph CRITERIA i

-- so are they where each is known by what it is
pub listed : (problem : Problem) (graph : Content) (numbers first last : List ℕ) (builds : ℕ) → first ≡ half_sums true problem graph
    → builds ≡ half_sum true problem graph (kinds.All summands.Node)
    → last ≡ half_sums false problem graph → numbers ≡ first ++ builds ∷ last → numbers ≡ vector problem graph
listed problem graph numbers first last builds a b c is = is ∙ (λ i. a i ++ b i ∷ c i) ∙ whole problem graph
