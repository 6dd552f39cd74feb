-- Graphs by what they have at names: look-ups, and that each graph is one.
use Rattle.std.proofs.Common.{◌≡◌, refl, sym, ap, subst, ◌∙◌, ℕ, Bool, true, false, cond, Option, Some, None, List, [], ◌∷◌, map, filter, find, All, Contains, sum_by}
use Rattle.std.specs.Option.{is_some, option_map}
use Rattle.std.specs.List.{filter_map, cons_option, list_all}
use Rattle.std.specs.Ordering.{is_eq, eq_by_cmp}
use Rattle.std.specs.Str.{bytes_eq}
use Rattle.std.specs.declared.cmp.Ordering.{Ordering}
use Rattle.std.specs.declared.cmp.Ordering.TheVariants.{Less, Equal, Greater}
use Rattle.std.specs.Cmp.Lexicographic.{nat_list_cmp_total, bytes_decides}
use Rattle.std.proofs.lemmas.Bool.{false≢true, false_from_ne_true}
use Rattle.std.proofs.lemmas.Option.{none-some}
use Rattle.std.proofs.lemmas.List.Elements.{All-contains}
use Rattle.std.proofs.lemmas.List.Kept.{IsStrictlySortedBy-filter}
use Rattle.keyed_lists.proofs.OfReachability.CountLaws.{image_of}
use Rattle.keyed_lists.proofs.OfReachability.SpreadLaws.{from_filter}
use Rattle.keyed_lists.specs.OfVariantValues.Texts.{byte_cmp}
use Rattle.keyed_lists.proofs.OfVariantValues.Texts2.{ties_are_equal}
use Rattle.keyed_lists.specs.Given.{passes_or_none, adds_or_none}
use Rattle.keyed_lists.specs.Keyed.{IsInOrder, find_key}
use Rattle.keyed_lists.specs.Laws.{IsKeyed}
use Rattle.keyed_lists.proofs.GivenLaws.{given_at, in_order-filter_map, find-filter_map, filter_map-agree, is_given, list_all-filter_map, sum_by-filter_map}
use Rattle.keyed_lists.proofs.LookupLaws.{find_sound}
use Rattle.keyed_lists.proofs.RiseLaws.{all_from}
use Rattle.graph_core.specs.declared.node.Node.{Node}
use Rattle.graph_core.specs.declared.node.Edge.{Edge}
use Rattle.graph_core.specs.Graphs.{Text, Content, IsGraph, HasNode, name_of, ends_of, virtual_of, pair_cmp, node_of, edge_of, edges_from, provider_of}
use Rattle.graph_core.specs.Given.{Given, IsGiven, AreNames, pairs_of, graph_by}
use Rattle.graph_core.proofs.PairLaws.{pair_total, pair_exact, pairs_rise, in_pairs, from_pairs, with_parent, pairs_with, in_with}
use Rattle.graph_core.proofs.GraphLaws.{has_decides}

-- ---- lists

filter_map-map : {K L X : Type 0} (f : L → Option X) (h : K → L) (ks : List K) → filter_map f (map h ks) ≡ filter_map (λ k. f (h k)) ks
filter_map-map f h [] = refl
filter_map-map f h (k ∷ ks) = ap (cons_option (f (h k))) (filter_map-map f h ks)

-- what a test finds is found among what a weaker one keeps
find-filter : {X : Type 0} (q p : X → Bool) → ((x : X) → q x ≡ true → p x ≡ true) → (xs : List X) → find q (filter p xs) ≡ find q xs
find-filter q p weaker [] = refl
find-filter q p weaker (x ∷ xs) =
    let rest = find-filter q p weaker xs in
    elim (p x) as (λ b. p x ≡ b → find q (cond b (x ∷ filter p xs) (filter p xs)) ≡ cond (q x) (Some x) (find q xs)) [
      | true ↦ λ e. ap (cond (q x) (Some x)) rest
      | false ↦ λ e. let fails : q x ≡ false = false_from_ne_true (q x) (λ t. false≢true (sym e ∙ weaker x t)) in rw fails rest
    ] refl

-- ---- providers: what is found of a virtual is told by its package

abbrev WithName : (Text → Option Text) → Text → Option (Text × Text)
WithName provider name = option_map (λ p. (name, p)) (provider name)

name_kept : (provider : Text → Option Text) → IsKeyed virtual_of (WithName provider)
name_kept provider name pair = name_kept-cases (provider name)
  where
    name_kept-cases : (r : Option Text) → option_map (λ p. (name, p)) r ≡ Some pair → pair.0 ≡ name
    name_kept-cases None e = absurd (none-some pair e)
    name_kept-cases (Some p) e = let same : (name, p) ≡ pair = cc in sym (ap (λ (q : Text × Text). q.0) same)

package_kept : (name : Text) (r : Option Text) → option_map (λ (p : Text × Text). p.1) (option_map (λ p. (name, p)) r) ≡ r
package_kept name None = refl
package_kept name (Some p) = refl

-- what is found of a virtual is its name with its provider
pub whole_provider : (g : Content) (name : Text) → find_key byte_cmp virtual_of g.providers name ≡ WithName (provider_of g) name
whole_provider g name = whole_provider-cases (find_key byte_cmp virtual_of g.providers name)
    (λ x. find_sound nat_list_cmp_total ties_are_equal virtual_of g.providers name x)
  where
    whole_provider-cases : (r : Option (Text × Text)) → ((x : Text × Text) → r ≡ Some x → Contains g.providers x × (x.0 ≡ name))
        → r ≡ option_map (λ p. (name, p)) (option_map (λ provider. provider.1) r)
    whole_provider-cases None sound = refl
    whole_provider-cases (Some x) sound = ap (λ v. Some (v, x.1)) (sound x refl).1

-- ---- what is told at names

module _ (names virtuals : List Text) (given : Given) where
  abbrev Made : Content
  Made = graph_by names virtuals given

  -- the provider that is told of a virtual is found there
  pub made_provider : AreNames virtuals → (name : Text) → Contains virtuals name → provider_of Made name ≡ given.provider name
  unfolding graph_by
  made_provider rising name there =
      ap (option_map (λ (p : Text × Text). p.1))
      (find-filter_map nat_list_cmp_total ties_are_equal virtual_of (WithName given.provider) (name_kept given.provider) virtuals
      name rising there)
      ∙ package_kept name (given.provider name)

  module _ (rising : AreNames names) (is : IsGiven names given) where
    -- the node that is told of a name is found there
    pub made_node : (name : Text) → Contains names name → node_of Made name ≡ given.node name
    unfolding graph_by
    made_node name there = find-filter_map nat_list_cmp_total ties_are_equal name_of given.node is.nodes names name rising there

    edge_kept : (pair : Text × Text) (edge : Edge) → given.edge pair.0 pair.1 ≡ Some edge → ends_of edge ≡ pair
    edge_kept pair edge e = let both = is.edges pair.0 pair.1 edge e in λ i. (both.0 i, both.1 i)

    -- the edge that is told of two names is found there
    pub made_edge : (parent child : Text) → Contains names parent → Contains names child
        → edge_of Made parent child ≡ given.edge parent child
    unfolding graph_by
    made_edge parent child in_p in_c =
        find-filter_map pair_total pair_exact ends_of (λ pair. given.edge pair.0 pair.1) edge_kept (pairs_of names) (parent, child)
        (pairs_rise names rising) (in_pairs names parent child in_p in_c)

    has_at : (name : Text) → Contains names name → ((node : Node) × (given.node name ≡ Some node)) → HasNode Made name
    has_at name there node = (has_decides Made name).0 (ap is_some (made_node name there ∙ node.1))

    edge_from : (edge : Edge) → Contains Made.edges edge → (pair : Text × Text) × Contains (pairs_of names) pair
        × (given.edge pair.0 pair.1 ≡ Some edge)
    unfolding graph_by
    edge_from edge there = given_at (λ (pair : Text × Text). given.edge pair.0 pair.1) (pairs_of names) edge there

    provider_from : (provider : Text × Text) → Contains Made.providers provider → (name : Text) × Contains virtuals name
        × (WithName given.provider name ≡ Some provider)
    unfolding graph_by
    provider_from provider there = given_at (WithName given.provider) virtuals provider there

    package_of : (name : Text) (provider : Text × Text) → WithName given.provider name ≡ Some provider
        → given.provider name ≡ Some provider.1
    package_of name provider = package_of-cases (given.provider name)
      where
        package_of-cases : (r : Option Text) → option_map (λ p. (name, p)) r ≡ Some provider → r ≡ Some provider.1
        package_of-cases None e = absurd (none-some provider e)
        package_of-cases (Some p) e = let same : (name, p) ≡ provider = cc in ap (λ (q : Text × Text). Some q.1) same

    parent_there : (edge : Edge) → Contains Made.edges edge → HasNode Made edge.parent
    parent_there edge there =
        let from = edge_from edge there in
        subst (HasNode Made) (sym (is.edges from.0.0 from.0.1 edge from.2).0)
        (has_at from.0.0 (from_pairs names from.0 from.1).0 (is.parents from.0.0 from.0.1 edge from.2))

    child_there : (edge : Edge) → Contains Made.edges edge → HasNode Made edge.child
    child_there edge there =
        let from = edge_from edge there in
        subst (HasNode Made) (sym (is.edges from.0.0 from.0.1 edge from.2).1)
        (has_at from.0.1 (from_pairs names from.0 from.1).1 (is.children from.0.0 from.0.1 edge from.2))

    package_there : (provider : Text × Text) → Contains Made.providers provider → HasNode Made provider.1
    package_there provider there =
        let from = provider_from provider there in
        let at = is.packages from.0 provider.1 (package_of from.0 provider from.2) in
        has_at provider.1 at.0 at.1

    nodes_order : IsInOrder byte_cmp name_of Made.nodes
    unfolding graph_by
    nodes_order = in_order-filter_map nat_list_cmp_total ties_are_equal name_of given.node is.nodes names rising

    edges_order : IsInOrder pair_cmp ends_of Made.edges
    unfolding graph_by
    edges_order = in_order-filter_map pair_total pair_exact ends_of (λ pair. given.edge pair.0 pair.1) edge_kept (pairs_of names)
        (pairs_rise names rising)

    providers_order : AreNames virtuals → IsInOrder byte_cmp virtual_of Made.providers
    unfolding graph_by
    providers_order = in_order-filter_map nat_list_cmp_total ties_are_equal virtual_of (WithName given.provider)
        (name_kept given.provider) virtuals

    -- what is told makes a graph
    pub made_graph : AreNames virtuals → IsGraph Made
    made_graph rising_virtuals = record {
      nodes = nodes_order;
      edges = edges_order;
      providers = providers_order rising_virtuals;
      parents = all_from (λ edge. HasNode Made edge.parent) Made.edges parent_there;
      children = all_from (λ edge. HasNode Made edge.child) Made.edges child_there;
      packages = all_from (λ provider. HasNode Made provider.1) Made.providers package_there;
    }

-- ---- each graph is one

module _ (g : Content) (graph : IsGraph g) where
  -- the providers of a graph are those of given virtuals
  pub given_providers : (virtuals : List Text) → AreNames virtuals → All (λ provider. Contains virtuals provider.0) g.providers
      → g.providers ≡ filter_map (WithName (provider_of g)) virtuals
  given_providers virtuals rising within =
      is_given nat_list_cmp_total ties_are_equal virtual_of virtuals g.providers rising graph.providers within
      ∙ filter_map-agree _ _ virtuals (λ name there. whole_provider g name)

  -- a test of all providers is one of what each virtual has
  pub each-provider : (virtuals : List Text) → AreNames virtuals → All (λ provider. Contains virtuals provider.0) g.providers
      → (test : Text × Text → Bool)
      → list_all test g.providers ≡ list_all (λ name. passes_or_none (λ provider. test (name, provider)) (provider_of g name)) virtuals
  each-provider virtuals rising within test =
      ap (list_all test) (given_providers virtuals rising within)
      ∙ list_all-filter_map (WithName (provider_of g)) test virtuals
      ∙ ap (λ h. list_all h virtuals) (λ i name. inner name (provider_of g name) i)
    where
      inner : (name : Text) (r : Option Text) → passes_or_none test (option_map (λ p. (name, p)) r)
          ≡ passes_or_none (λ provider. test (name, provider)) r
      inner name None = refl
      inner name (Some p) = refl

  module _ (names : List Text) (rising : AreNames names) (within : All (λ node. Contains names node.name) g.nodes) where
    -- the nodes of a graph are those of given names
    pub given_nodes : g.nodes ≡ filter_map (node_of g) names
    given_nodes = is_given nat_list_cmp_total ties_are_equal name_of names g.nodes rising graph.nodes within

    named : (name : Text) → HasNode g name → Contains names name
    named name has =
        let node = image_of name_of g.nodes name has in
        subst (Contains names) node.2 (All-contains (λ (n : Node). Contains names n.name) g.nodes node.0 within node.1)

    ends_named : (edge : Edge) → Contains g.edges edge → Contains names edge.parent × Contains names edge.child
    ends_named edge there = (
      named edge.parent (All-contains (λ (e : Edge). HasNode g e.parent) g.edges edge graph.parents there),
      named edge.child (All-contains (λ (e : Edge). HasNode g e.child) g.edges edge graph.children there),
    )

    given_edges : g.edges ≡ filter_map (find_key pair_cmp ends_of g.edges) (pairs_of names)
    given_edges = is_given pair_total pair_exact ends_of (pairs_of names) g.edges (pairs_rise names rising) graph.edges
        (all_from (λ edge. Contains (pairs_of names) (ends_of edge)) g.edges (λ edge there. let both = ends_named edge there in
        in_pairs names edge.parent edge.child both.0 both.1))

    -- a graph is the one that its look-ups give
    pub given_graph : (virtuals : List Text) → AreNames virtuals → All (λ provider. Contains virtuals provider.0) g.providers
        → g ≡ graph_by names virtuals (record { node = node_of g; edge = edge_of g; provider = provider_of g })
    unfolding graph_by
    given_graph virtuals rising_virtuals within_virtuals =
        let providers = given_providers virtuals rising_virtuals within_virtuals in
        λ i. record { nodes = given_nodes i; edges = given_edges i; providers = providers i }

    -- a test of all nodes is one of what each name has
    pub each-node : (test : Node → Bool) → list_all test g.nodes ≡ list_all (λ name. passes_or_none test (node_of g name)) names
    each-node test = ap (list_all test) given_nodes ∙ list_all-filter_map (node_of g) test names

    -- a sum over all nodes is one over the names
    pub sum-nodes : (cost : Node → ℕ) → sum_by cost g.nodes ≡ sum_by (λ name. adds_or_none cost (node_of g name)) names
    sum-nodes cost = ap (sum_by cost) given_nodes ∙ sum_by-filter_map (node_of g) cost names

    -- ---- the edges from a node

    module _ (parent : Text) where
      -- the edges from a node are those to the names
      pub edges-by : edges_from g parent ≡ filter_map (edge_of g parent) names
      edges-by =
          is_given pair_total pair_exact ends_of (with_parent parent names) (edges_from g parent)
          (pairs_with parent names rising) run_in_order
          (all_from (λ edge. Contains (with_parent parent names) (ends_of edge)) (edges_from g parent) in_run)
          ∙ filter_map-map (find_key pair_cmp ends_of (edges_from g parent)) (λ child. (parent, child)) names
          ∙ filter_map-agree _ _ names (λ child there. find-filter (λ (edge : Edge). eq_by_cmp pair_cmp (ends_of edge) (parent, child))
          (λ edge. bytes_eq edge.parent parent) (same_parent child) g.edges)
        where
          map-filter : (xs : List Edge) → map ends_of (filter (λ edge. bytes_eq edge.parent parent) xs)
              ≡ filter (λ (pair : Text × Text). bytes_eq pair.0 parent) (map ends_of xs)
          map-filter [] = refl
          map-filter (x ∷ xs) =
              let rest = map-filter xs in
              elim (bytes_eq x.parent parent) as (λ b. map ends_of
              (cond b (x ∷ filter (λ edge. bytes_eq edge.parent parent) xs) (filter (λ edge. bytes_eq edge.parent parent) xs))
              ≡ cond b (ends_of x ∷ filter (λ (pair : Text × Text). bytes_eq pair.0 parent) (map ends_of xs))
              (filter (λ (pair : Text × Text). bytes_eq pair.0 parent) (map ends_of xs))) [
                | true ↦ ap (λ l. ends_of x ∷ l) rest
                | false ↦ rest
              ]

          run_in_order : IsInOrder pair_cmp ends_of (edges_from g parent)
          run_in_order =
              rw (map-filter g.edges) (IsStrictlySortedBy-filter pair_cmp (λ pair. bytes_eq pair.0 parent)
              (map ends_of g.edges) graph.edges)

          in_run : (edge : Edge) → Contains (edges_from g parent) edge → Contains (with_parent parent names) (ends_of edge)
          in_run edge there =
              let from = from_filter (λ (e : Edge). bytes_eq e.parent parent) g.edges edge there in
              let is_parent = (bytes_decides edge.parent parent).0 from.1 in
              subst (λ p. Contains (with_parent parent names) (p, edge.child)) (sym is_parent)
              (in_with parent edge.child names (ends_named edge from.0).1)

          is_tie : (r : Ordering) → is_eq r ≡ true → r ≡ Equal
          is_tie Less e = absurd (cc)
          is_tie Equal e = refl
          is_tie Greater e = absurd (cc)

          same_parent : (child : Text) (edge : Edge) → eq_by_cmp pair_cmp (ends_of edge) (parent, child) ≡ true
              → bytes_eq edge.parent parent ≡ true
          same_parent child edge e = (bytes_decides edge.parent parent).1
              (ap (λ p. p.0) (pair_exact (ends_of edge) (parent, child) (is_tie _ e)))
