use Rattle.std.proofs.Common.{◌≡◌, refl, sym, ap, ◌∙◌, Bool, true, false, cond, Option, Some}
use Rattle.std.specs.Option.{option_map}
use Rattle.std.specs.Ordering.{eq_by_cmp}
use Rattle.std.specs.Cmp.Lexicographic.{nat_list_cmp_total}
use Rattle.keyed_lists.specs.OfVariantValues.Texts.{byte_cmp}
use Rattle.keyed_lists.proofs.OfVariantValues.Texts2.{ties_are_equal}
use Rattle.keyed_lists.specs.Keyed.{find_key}
use Rattle.keyed_lists.proofs.KeyedLaws.{none_from_map}
use Rattle.keyed_lists.proofs.LookupLaws.{found_iff, find-with_one, same_lists}
use Rattle.graph_core.specs.Graphs.{Text, Content, IsGraph, name_of, ends_of, virtual_of, node_of, edge_of, provider_of}
use Rattle.graph_core.proofs.PairLaws.{pair_total, pair_exact}
use Rattle.graph_core.proofs.GraphLaws.{has_decides, is_graph_decides}
use Rattle.graph_core.proofs.GivenLaws.{whole_provider}
use Rattle.graph_core.proofs.theorems.graph_laws.Goals as goal

chosen : (b : Bool) (name p : Text) (r : Option (Text × Text))
    → option_map (λ provider. provider.1) (cond b (Some (name, p)) r) ≡ cond b (Some p) (option_map (λ provider. provider.1) r)
chosen true name p r = refl
chosen false name p r = refl

same : (a b : Content) → IsGraph a → IsGraph b → ((name : Text) → node_of a name ≡ node_of b name)
    → ((parent child : Text) → edge_of a parent child ≡ edge_of b parent child)
    → ((name : Text) → provider_of a name ≡ provider_of b name) → a ≡ b
same a b graph_a graph_b nodes edges providers =
    let by_nodes = same_lists nat_list_cmp_total ties_are_equal name_of a.nodes b.nodes graph_a.nodes graph_b.nodes nodes in
    let by_edges = same_lists pair_total pair_exact ends_of a.edges b.edges graph_a.edges graph_b.edges (λ ends. edges ends.0 ends.1) in
    let by_providers = same_lists nat_list_cmp_total ties_are_equal virtual_of a.providers b.providers graph_a.providers graph_b.providers
    (λ name. whole_provider a name ∙ ap (option_map (λ p. (name, p))) (providers name) ∙ sym (whole_provider b name)) in
    λ i. record { nodes = by_nodes i; edges = by_edges i; providers = by_providers i }

pub returns : goal.returns
returns c = record {
  tells = is_graph_decides;
  same = same;
  found = λ g name node graph. found_iff nat_list_cmp_total ties_are_equal name_of g.nodes name node graph.nodes;
  has = λ g name. ((has_decides g name).1, (has_decides g name).0);
  node = λ g node name none. find-with_one nat_list_cmp_total ties_are_equal name_of g.nodes node name none;
  edge = λ g edge parent child none. find-with_one pair_total pair_exact ends_of g.edges edge (parent, child) none;
  provider = λ g name p q none. ap (option_map (λ provider. provider.1))
      (find-with_one nat_list_cmp_total ties_are_equal virtual_of g.providers (name, p) q (none_from_map _ _ none))
      ∙ chosen (eq_by_cmp byte_cmp name q) name p (find_key byte_cmp virtual_of g.providers q);
}
