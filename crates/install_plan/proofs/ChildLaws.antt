-- Arcs between the places of nodes to build.
use Rattle.std.proofs.Common.{◌≡◌, ◌↔◌, sym, ap, subst, ◌∙◌, ℕ, ◌+◌, ◌<◌, List, [], ◌∷◌, ◌++◌, length, get_or, take, map, filter, All, Contains, IsTrue, ◌⊎◌, ⊎_elim, arith}
use Rattle.std.proofs.lemmas.List.{length-map, get_or-map, get_or_default, take_more}
use Rattle.std.proofs.lemmas.List.Elements.{Contains-append_left, Contains-push, Contains-push_cases}
use Rattle.reachability.specs.Places.{IsAt, AreHeads}
use Rattle.reachability.proofs.CountLaws.{has_image, image_of}
use Rattle.reachability.proofs.SpreadLaws.{from_filter, in_filter}
use Rattle.graph_core.specs.OfKeyedLists.Keyed.{IsPlaceOf}
use Rattle.graph_core.specs.OfVariantValues.Texts.{byte_cmp}
use Rattle.graph_core.specs.declared.node.Node.{Node}
use Rattle.graph_core.specs.declared.node.Edge.{Edge}
use Rattle.graph_core.specs.Graphs.{Text, Content, IsGraph, HasNode, name_of, is_built}
use Rattle.graph_core.proofs.OfKeyedLists.RiseLaws.{all_from}
use Rattle.graph_core.proofs.PathLaws.{names_once, name_at}
use Rattle.install_plan.specs.Schedules.{IsBuilt}
use Rattle.install_plan.specs.Children.{names_of, IsBuiltArc, AreBuiltArcs, AreBuiltChildren}

module _ (g : Content) (graph : IsGraph g) where
  -- the name of what stands at a place
  named : (name : Text) (place : ℕ) (node : Node) → IsAt (names_of g) name place → place < length g.nodes → node ≡ get_or g.nodes place node
      → node.name ≡ name
  named name place node at lt is = ap name_of is ∙ sym (get_or-map name_of g.nodes place node name lt) ∙ at.1

  -- the node at the place of a name tells whether the name is to be built
  pub place_tells : (name : Text) (place : ℕ) (node : Node) → IsPlaceOf byte_cmp name_of g.nodes name place
      → node ≡ get_or g.nodes place node
      → IsTrue (is_built node) ↔ IsBuilt g name
  place_tells name place node there is =
      let at = name_at g graph name place there in (
        λ passes. subst (Contains (map name_of (filter is_built g.nodes))) (named name place node at there.within is)
            (has_image name_of (filter is_built g.nodes) node (in_filter is_built g.nodes node (place, there.within, sym is) passes)),
        λ built.
            let other = image_of name_of (filter is_built g.nodes) name built in
            let parts = from_filter is_built g.nodes other.0 other.1 in
            let lt : parts.0.0 < length (names_of g) = rw (length-map g.nodes name_of) parts.0.1 in
            let at_other : IsAt (names_of g) name parts.0.0 =
            (lt, get_or-map name_of g.nodes parts.0.0 other.0 name parts.0.1 ∙ ap name_of parts.0.2 ∙ other.2) in
            let same = names_once g graph name parts.0.0 place at_other at in
            let one : other.0 ≡ node = sym parts.0.2 ∙ ap (λ i. get_or g.nodes i other.0) same
            ∙ get_or_default g.nodes place other.0 node there.within ∙ sym is in
            ap is_built (sym one) ∙ parts.1,
      )

  -- a name that is no node is not to be built
  pub built_is_node : (name : Text) → IsBuilt g name → HasNode g name
  built_is_node name built =
      let node = image_of name_of (filter is_built g.nodes) name built in
      subst (HasNode g) node.2 (has_image name_of g.nodes node.0 (from_filter is_built g.nodes node.0 node.1).0)

-- ---- arcs, edge by edge

module _ (g : Content) where
  arc_kept : (edges : List Edge) (e : Edge) (i j : ℕ) → IsBuiltArc g edges i j → IsBuiltArc g (edges ++ e ∷ []) i j
  arc_kept edges e i j arc = record {
    edge = arc.edge;
    there = Contains-append_left edges (e ∷ []) arc.edge arc.there;
    parent = arc.parent;
    child = arc.child;
    parent_built = arc.parent_built;
    child_built = arc.child_built;
  }

  arc_before : (edges : List Edge) (e : Edge) (i j : ℕ) (arc : IsBuiltArc g (edges ++ e ∷ []) i j) → Contains edges arc.edge
      → IsBuiltArc g edges i j
  arc_before edges e i j arc has = record {
    edge = arc.edge;
    there = has;
    parent = arc.parent;
    child = arc.child;
    parent_built = arc.parent_built;
    child_built = arc.child_built;
  }

  pub arcs_none : AreBuiltArcs g [] []
  arcs_none = record { exact = λ i j. (λ arc. absurd (omega (arith, arc.1)), λ arc. absurd (omega (arith, arc.there.1))) }

  module _ (graph : IsGraph g) (edges : List Edge) (done : ℕ) (e : Edge) (arcs : List (ℕ × ℕ)) (lt : done < length edges)
      (is : e ≡ get_or edges done e) (so_far : AreBuiltArcs g (take done edges) arcs) where
    next_is : take (done + 1) edges ≡ take done edges ++ e ∷ []
    next_is = take_more edges done e lt ∙ ap (λ x. take done edges ++ x ∷ []) (sym is)

    -- one edge more, between nodes to build
    pub arcs_more : (a b : ℕ) → IsAt (names_of g) e.parent a → IsAt (names_of g) e.child b → IsBuilt g e.parent × IsBuilt g e.child
        → AreBuiltArcs g (take (done + 1) edges) (arcs ++ (a, b) ∷ [])
    arcs_more a b at_a at_b built = subst (λ es. AreBuiltArcs g es (arcs ++ (a, b) ∷ [])) (sym next_is) (record {
      exact = λ i j. (
        λ arc. ⊎_elim
            (λ old. arc_kept (take done edges) e i j ((so_far.exact i j).0 old))
            (λ here. record {
              edge = e;
              there = Contains-push (take done edges) e;
              parent = subst (IsAt (names_of g) e.parent) (ap (λ x. x.0) here) at_a;
              child = subst (IsAt (names_of g) e.child) (ap (λ x. x.1) here) at_b;
              parent_built = built.0;
              child_built = built.1;
            })
            (Contains-push_cases arcs (a, b) (i, j) arc),
        λ arc. ⊎_elim
            (λ old. Contains-append_left arcs ((a, b) ∷ []) (i, j) ((so_far.exact i j).1 (arc_before (take done edges) e i j arc old)))
            (λ here.
            let a_is : a ≡ i = names_once g graph arc.edge.parent a i
            (subst (λ (x : Edge). IsAt (names_of g) x.parent a) here at_a) arc.parent in
            let b_is : b ≡ j = names_once g graph arc.edge.child b j
            (subst (λ (x : Edge). IsAt (names_of g) x.child b) here at_b) arc.child in
            subst (Contains (arcs ++ (a, b) ∷ [])) (λ k. (a_is k, b_is k)) (Contains-push arcs (a, b)))
            (Contains-push_cases (take done edges) e arc.edge arc.there),
      );
    })

    -- and one that is not
    pub arcs_same : (IsBuilt g e.parent × IsBuilt g e.child → ⊥) → AreBuiltArcs g (take (done + 1) edges) arcs
    arcs_same apart = subst (λ es. AreBuiltArcs g es arcs) (sym next_is) (record {
      exact = λ i j. (
        λ arc. arc_kept (take done edges) e i j ((so_far.exact i j).0 arc),
        λ arc. ⊎_elim
            (λ old. (so_far.exact i j).1 (arc_before (take done edges) e i j arc old))
            (λ here. absurd (apart (
              subst (λ (x : Edge). IsBuilt g x.parent) (sym here) arc.parent_built,
              subst (λ (x : Edge). IsBuilt g x.child) (sym here) arc.child_built,
            )))
            (Contains-push_cases (take done edges) e arc.edge arc.there),
      );
    })

  -- heads of all these arcs
  pub are_children : (arcs : List (ℕ × ℕ)) (heads : List (List ℕ)) → AreBuiltArcs g g.edges arcs → AreHeads (length g.nodes) arcs heads
      → AreBuiltChildren g heads
  are_children arcs heads told are = record {
    each = are.each;
    exact = λ i j. (λ leads. (told.exact i j).0 ((are.same i j).0 leads), λ arc. (are.same i j).1 ((told.exact i j).1 arc));
  }

  -- the ends of each arc are places
  pub arcs_within : (arcs : List (ℕ × ℕ)) → AreBuiltArcs g g.edges arcs
      → All (λ arc. (arc.0 < length g.nodes) × (arc.1 < length g.nodes)) arcs
  arcs_within arcs told = all_from (λ (arc : ℕ × ℕ). (arc.0 < length g.nodes) × (arc.1 < length g.nodes)) arcs (λ arc has.
      let from = (told.exact arc.0 arc.1).0 has in
      (omega (arith, from.parent.0, length-map g.nodes name_of), omega (arith, from.child.0, length-map g.nodes name_of)))
