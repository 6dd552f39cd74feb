-- Graphs: the test for them, and graphs with one thing more.
use Rattle.std.proofs.Common.{◌≡◌, refl, ap, subst, Bool, true, false, cond, Option, Some, None, Result, Ok, Err, IfOk, OnErr, List, map, All, inr, Decides}
use Rattle.std.specs.Option.{is_some}
use Rattle.std.specs.declared.alloc.AllocError.{AllocError}
use Rattle.std.specs.List.{list_all}
use Rattle.std.proofs.lemmas.Bool.{false≢true, and_parts, and_from}
use Rattle.std.proofs.lemmas.List.Elements.{All-weaker, All-nil}
use Rattle.std.proofs.lemmas.List.Sums.{AllPass-from_list_all, list_all-from_AllPass}
use Rattle.std.specs.Cmp.Lexicographic.{nat_list_cmp_total}
use Rattle.std.specs.List.Sorted.{IsStrictlySortedBy}
use Rattle.keyed_lists.proofs.OfReachability.CountLaws.{has_image}
use Rattle.keyed_lists.specs.OfVariantValues.Texts.{byte_cmp}
use Rattle.keyed_lists.proofs.OfVariantValues.Texts2.{ties_are_equal}
use Rattle.keyed_lists.proofs.OfVariantValues.Keys.{Contains-insert_key}
use Rattle.keyed_lists.specs.Keyed.{rises, with_one}
use Rattle.keyed_lists.proofs.KeyedLaws.{keys-with_one, in_order-with_one, all-with_one, find_known}
use Rattle.keyed_lists.proofs.LookupLaws.{find_sound}
use Rattle.keyed_lists.proofs.RiseLaws.{rises_decides}
use Rattle.graph_core.specs.declared.node.Node.{Node}
use Rattle.graph_core.specs.declared.node.Edge.{Edge}
use Rattle.graph_core.specs.Graphs.{Text, Content, IsGraph, is_graph, HasNode, no_content, name_of, ends_of, virtual_of, pair_cmp, node_of, with_node, with_edge, with_provider}
use Rattle.graph_core.proofs.PairLaws.{pair_total, pair_exact}

-- the empty content is a graph
pub no_graph : IsGraph no_content
unfolding IsStrictlySortedBy
no_graph = record { nodes = tt; edges = tt; providers = tt; parents = All-nil _; children = All-nil _; packages = All-nil _ }

-- ---- the test

is_there : {X : Type 0} (r : Option X) → is_some r ≡ true → (x : X) × (r ≡ Some x)
is_there None e = absurd (false≢true e)
is_there (Some x) e = (x, refl)

-- a node is found where its name is one of the nodes'
pub has_decides : (g : Content) (name : Text) → Decides (is_some (node_of g name)) (HasNode g name)
has_decides g name = (
  λ e.
      let found = is_there (node_of g name) e in
      let sound = find_sound nat_list_cmp_total ties_are_equal name_of g.nodes name found.0 found.1 in
      subst (HasNode g) sound.1 (has_image name_of g.nodes found.0 sound.0),
  λ has. ap is_some (find_known nat_list_cmp_total ties_are_equal name_of g.nodes name has).1,
)

-- each name that the list tells is a node's
all_decide : {X : Type 0} (g : Content) (name : X → Text) (xs : List X)
    → Decides (list_all (λ x. is_some (node_of g (name x))) xs) (All (λ x. HasNode g (name x)) xs)
all_decide g name xs = (
  λ e. All-weaker (λ x. is_some (node_of g (name x)) ≡ true) (λ x. HasNode g (name x)) (λ x. (has_decides g (name x)).0) xs
      (AllPass-from_list_all (λ x. is_some (node_of g (name x))) xs e),
  λ all. list_all-from_AllPass (λ x. is_some (node_of g (name x))) xs
      (All-weaker (λ x. HasNode g (name x)) (λ x. is_some (node_of g (name x)) ≡ true) (λ x. (has_decides g (name x)).1) xs all),
)

module _ (g : Content) where
  nodes_tell : Decides (rises byte_cmp (map name_of g.nodes)) (IsStrictlySortedBy byte_cmp (map name_of g.nodes))
  nodes_tell = rises_decides byte_cmp nat_list_cmp_total (map name_of g.nodes)

  edges_tell : Decides (rises pair_cmp (map ends_of g.edges)) (IsStrictlySortedBy pair_cmp (map ends_of g.edges))
  edges_tell = rises_decides pair_cmp pair_total (map ends_of g.edges)

  providers_tell : Decides (rises byte_cmp (map virtual_of g.providers)) (IsStrictlySortedBy byte_cmp (map virtual_of g.providers))
  providers_tell = rises_decides byte_cmp nat_list_cmp_total (map virtual_of g.providers)

  -- the test of a graph is exact
  pub is_graph_decides : Decides (is_graph g) (IsGraph g)
  unfolding is_graph
  is_graph_decides = (
    λ e.
        let p5 = and_parts _ _ e in let p4 = and_parts _ _ p5.0 in let p3 = and_parts _ _ p4.0 in let p2 = and_parts _ _ p3.0 in let p1 =
        and_parts _ _ p2.0 in
        record {
          nodes = nodes_tell.0 p1.0;
          edges = edges_tell.0 p1.1;
          providers = providers_tell.0 p2.1;
          parents = (all_decide g (λ e. e.parent) g.edges).0 p3.1;
          children = (all_decide g (λ e. e.child) g.edges).0 p4.1;
          packages = (all_decide g (λ p. p.1) g.providers).0 p5.1;
        },
    λ graph. and_from _ _ (and_from _ _ (and_from _ _ (and_from _ _ (and_from _ _
        (nodes_tell.1 graph.nodes) (edges_tell.1 graph.edges)) (providers_tell.1 graph.providers))
        ((all_decide g (λ e. e.parent) g.edges).1 graph.parents)) ((all_decide g (λ e. e.child) g.edges).1 graph.children))
        ((all_decide g (λ p. p.1) g.providers).1 graph.packages),
  )

-- ---- one thing more

module _ (g : Content) (graph : IsGraph g) where
  -- a graph with one node more is one
  pub graph-with_node : (node : Node) → IsGraph (with_node g node)
  graph-with_node node = record {
    nodes = in_order-with_one nat_list_cmp_total ties_are_equal name_of g.nodes node graph.nodes;
    edges = graph.edges;
    providers = graph.providers;
    parents = All-weaker (λ e. HasNode g e.parent) (λ e. HasNode (with_node g node) e.parent) (λ e. kept e.parent) g.edges graph.parents;
    children = All-weaker (λ e. HasNode g e.child) (λ e. HasNode (with_node g node) e.child) (λ e. kept e.child) g.edges graph.children;
    packages = All-weaker (λ p. HasNode g p.1) (λ p. HasNode (with_node g node) p.1) (λ p. kept p.1) g.providers graph.packages;
  }
    where
      kept : (name : Text) → HasNode g name → HasNode (with_node g node) name
      kept name has = rw (keys-with_one nat_list_cmp_total ties_are_equal name_of g.nodes node)
          ((Contains-insert_key nat_list_cmp_total ties_are_equal (map name_of g.nodes) node.name name).1 (inr has))

  -- a graph with an edge between its nodes more is one
  pub graph-with_edge : (edge : Edge) → HasNode g edge.parent → HasNode g edge.child → IsGraph (with_edge g edge)
  graph-with_edge edge parent child = record {
    nodes = graph.nodes;
    edges = in_order-with_one pair_total pair_exact ends_of g.edges edge graph.edges;
    providers = graph.providers;
    parents = all-with_one pair_total pair_exact ends_of (λ e. HasNode g e.parent) g.edges edge graph.parents parent;
    children = all-with_one pair_total pair_exact ends_of (λ e. HasNode g e.child) g.edges edge graph.children child;
    packages = graph.packages;
  }

  -- a graph with one provider more is one
  pub graph-with_provider : (name provider : Text) → HasNode g provider → IsGraph (with_provider g name provider)
  graph-with_provider name provider has = record {
    nodes = graph.nodes;
    edges = graph.edges;
    providers = in_order-with_one nat_list_cmp_total ties_are_equal virtual_of g.providers (name, provider) graph.providers;
    parents = graph.parents;
    children = graph.children;
    packages = all-with_one nat_list_cmp_total ties_are_equal virtual_of (λ p. HasNode g p.1) g.providers (name, provider)
        graph.packages has;
  }

-- ---- after an insertion that may have failed

module _ (g : Content) (graph : IsGraph g) (r : Result Bool AllocError) where
  -- so it is where the node was there, or memory was out
  pub graph-after_node : (node : Node) (nodes : List Node)
      → IfOk r (λ added. nodes ≡ cond added (with_one byte_cmp name_of g.nodes node) g.nodes) → OnErr r (nodes ≡ g.nodes)
      → IsGraph (record g { nodes = nodes })
  graph-after_node node nodes ok err = graph-after_node-cases r ok err
    where
      graph-after_node-cases : (r : Result Bool AllocError)
          → IfOk r (λ added. nodes ≡ cond added (with_one byte_cmp name_of g.nodes node) g.nodes)
          → OnErr r (nodes ≡ g.nodes) → IsGraph (record g { nodes = nodes })
      graph-after_node-cases (Ok true) is _ = rw is (graph-with_node g graph node)
      graph-after_node-cases (Ok false) is _ = rw is graph
      graph-after_node-cases (Err e) _ is = rw is graph

  -- so it is where the virtual was there, or memory was out
  pub graph-after_provider : (name provider : Text) (providers : List (Text × Text)) → HasNode g provider
      → IfOk r (λ added. providers ≡ cond added (with_one byte_cmp virtual_of g.providers (name, provider)) g.providers)
      → OnErr r (providers ≡ g.providers) → IsGraph (record g { providers = providers })
  graph-after_provider name provider providers has ok err = graph-after_provider-cases r ok err
    where
      graph-after_provider-cases : (r : Result Bool AllocError) → IfOk r
          (λ added. providers ≡ cond added (with_one byte_cmp virtual_of g.providers (name, provider)) g.providers)
          → OnErr r (providers ≡ g.providers) → IsGraph (record g { providers = providers })
      graph-after_provider-cases (Ok true) is _ = rw is (graph-with_provider g graph name provider has)
      graph-after_provider-cases (Ok false) is _ = rw is graph
      graph-after_provider-cases (Err e) _ is = rw is graph
