-- What the definitions compute.
use Rattle.std.proofs.Common.{◌≡◌, refl, sym, ◌∙◌, arith, zero, suc, true, false, codes, List, [], ◌∷◌}
use Rattle.std.specs.Prelude.{All}
use Rattle.std.specs.List.Sorted.{IsStrictlySortedBy}
use Rattle.std.proofs.lemmas.Bool.{false≢true}
use Rattle.condition_rules.specs.Holds.{asked_node, suits, holds, all_hold, governing}
use Rattle.condition_rules.specs.Meets.{meets_rest, meets, provides}
use Rattle.condition_rules.specs.Worlds.{recipe_of}
use Rattle.graph_core.specs.Graphs.{Text, HasNode, no_content}
use Rattle.graph_core.specs.declared.node.Edge.{Edge}
use Rattle.graph_core.specs.declared.node.Node.{Node}
use Rattle.graph_rules.specs.Built.{keeps_buildable, keeps_version, keeps_variant, keeps_compiler, keeps_machine, keeps_extra_edge}
use Rattle.graph_rules.specs.Costs.{other_values, unused_defaults, provider_weights, summed_cost, criteria, vector, smaller}
use Rattle.graph_rules.specs.Directives.{keeps_root}
use Rattle.graph_rules.specs.Kept.{keeps_kept}
use Rattle.graph_rules.specs.Optimal.{HasNoGraph, IsOptimal}
use Rattle.graph_rules.specs.Valid.{keeps, valid}
use Rattle.graph_rules.specs.Weights.{row_cmp, version_weight, is_deprecated}
use Rattle.graph_rules.specs.Whole.{keeps_no_cycle, keeps_reachable}
use Rattle.problem.specs.Nodes.{IsWellFormed}
use Rattle.problem.specs.Problems.{package_entry_of}
use Rattle.reachability.specs.Paths.{spread, reached, reaches, joined}
use Rattle.variant_values.specs.Texts.{IsInByteOrder, with_texts}
use Rattle.version_order.specs.Component.{word_of, number_of, rank_of}
use Rattle.version_order.specs.Order.{stage_of, staged, pre_release, release, version_cmp}
use Rattle.version_order.specs.Pieces.{pieces}
use Rattle.version_order.specs.Prefix.{is_same}
use Rattle.version_order.specs.Sets.{is_under, item_contains, items_overlap}
use Rattle.virtuals.specs.Virtuals.{provides_name, is_virtual}
use Rattle.optimal_rows.specs.Worked.{node_of_version, of_version, worked}

pub newer : valid worked (of_version (codes "2")) ≡ true
unfolding valid keeps keeps_root keeps_buildable keeps_version keeps_variant keeps_compiler keeps_machine keeps_extra_edge keeps_kept
    keeps_no_cycle keeps_reachable holds meets meets_rest package_entry_of recipe_of is_virtual provides_name spread reached reaches joined
    provides asked_node suits with_texts
newer = refl

pub older : valid worked (of_version (codes "1")) ≡ true
unfolding valid keeps keeps_root keeps_buildable keeps_version keeps_variant keeps_compiler keeps_machine keeps_extra_edge keeps_kept
    keeps_no_cycle keeps_reachable holds meets meets_rest package_entry_of recipe_of is_virtual provides_name spread reached reaches joined
    provides asked_node suits with_texts
older = refl

pub unknown : valid worked (of_version (codes "3")) ≡ false
unfolding valid keeps keeps_root keeps_buildable keeps_version holds meets meets_rest package_entry_of recipe_of is_virtual provides_name
    provides asked_node suits
unknown = refl

pub empty : valid worked no_content ≡ false
unfolding valid keeps keeps_root holds meets asked_node suits
empty = refl

pub less : smaller (vector worked (of_version (codes "2"))) (vector worked (of_version (codes "1"))) ≡ true
unfolding vector criteria summed_cost other_values unused_defaults provider_weights version_weight is_deprecated row_cmp package_entry_of recipe_of
    version_cmp stage_of staged pre_release release pieces word_of number_of rank_of is_same is_under item_contains items_overlap
    governing all_hold
less = refl

-- a graph of one node is well-formed
nothing : {X : Type 0} (P : X → Type 0) → All P []
nothing P k d lt = absurd (omega (arith, lt))

alone : {X : Type 0} (P : X → Type 0) (x : X) → P x → All P (x ∷ [])
alone P x is zero d lt = is
alone P x is (suc k) d lt = absurd (omega (arith, lt))

no_values : (node : Node) → node.variants ≡ [] → All (λ v. IsInByteOrder v.1) node.variants
no_values node none = rw none (nothing (λ (v : Text × List Text). IsInByteOrder v.1))

whole : (version : Text) → IsWellFormed (of_version version)
unfolding IsStrictlySortedBy
whole version = record {
  is_graph = record {
    nodes = search;
    edges = tt;
    providers = tt;
    parents = nothing (λ (edge : Edge). HasNode (of_version version) edge.parent);
    children = nothing (λ (edge : Edge). HasNode (of_version version) edge.child);
    packages = nothing (λ (provider : Text × Text). HasNode (of_version version) provider.1);
  };
  values = alone (λ (node : Node). All (λ v. IsInByteOrder v.1) node.variants) (node_of_version version)
      (no_values (node_of_version version) refl);
  virtuals = nothing (λ (edge : Edge). IsInByteOrder edge.virtuals);
}

pub beaten : IsOptimal worked (of_version (codes "1")) → ⊥
beaten best = false≢true (sym (best.least (of_version (codes "2")) (whole (codes "2")) newer) ∙ less)

pub invalid : IsOptimal worked (of_version (codes "3")) → ⊥
invalid best = false≢true (sym unknown ∙ best.is_valid)

pub unasked : IsOptimal worked no_content → ⊥
unasked best = false≢true (sym empty ∙ best.is_valid)

pub some : HasNoGraph worked → ⊥
some none = false≢true (sym (none (of_version (codes "2")) (whole (codes "2"))) ∙ newer)
