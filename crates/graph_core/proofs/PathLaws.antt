-- Paths of a graph: they lead from nodes to nodes, and are those between the places of the nodes.
use Rattle.std.proofs.Common.{◌≡◌, sym, ap, subst, ◌∙◌, ℕ, ◌+◌, ◌<◌, Bool, false, List, [], ◌∷◌, ◌++◌, length, get_or, take, map, ◌↔◌, ⊎_elim, IsTrue, Decides}
use Rattle.std.proofs.lemmas.List.{take_more, map-append, length-map}
use Rattle.std.proofs.lemmas.List.Elements.{All-contains}
use Rattle.std.proofs.lemmas.Bool.Decides.{same_from_decides}
use Rattle.std.specs.Cmp.Lexicographic.{nat_list_cmp_total, bytes_decides}
use Rattle.std.specs.Str.{bytes_eq}
use Rattle.keyed_lists.specs.OfVariantValues.Texts.{byte_cmp}
use Rattle.keyed_lists.proofs.OfVariantValues.Texts2.{ties_are_equal}
use Rattle.keyed_lists.specs.OfReachability.Paths.{Path}
use Rattle.keyed_lists.specs.OfReachability.Places.{AreOnce, AreNumbered, AreHeads, MarksReached, IsAt}
use Rattle.keyed_lists.proofs.OfReachability.CountLaws.{image_of}
use Rattle.keyed_lists.proofs.OfReachability.PathLaws.{first_arc, last_arc}
use Rattle.keyed_lists.proofs.OfReachability.HeadLaws.{told_by_marks, zip_push}
use Rattle.keyed_lists.proofs.OfReachability.SpreadLaws.{reaches_decides}
use Rattle.keyed_lists.specs.Keyed.{IsPlaceOf}
use Rattle.keyed_lists.proofs.KeyedLaws.{one_place, key_at, told_false}
use Rattle.graph_core.specs.declared.node.Edge.{Edge}
use Rattle.graph_core.specs.Graphs.{Text, Content, IsGraph, HasNode, name_of, ends_of}
use Rattle.graph_core.specs.Paths.{arcs_of, JoinedIn, reaches_in}

module _ (g : Content) (graph : IsGraph g) where
  -- the ends of an edge are nodes
  pub joins_nodes : (p q : Text) → JoinedIn g p q → HasNode g p × HasNode g q
  joins_nodes p q arc =
      let edge = image_of ends_of g.edges (p, q) arc in (
        subst (HasNode g) (ap (λ e. e.0) edge.2) (All-contains (λ (e : Edge). HasNode g e.parent) g.edges edge.0 graph.parents edge.1),
        subst (HasNode g) (ap (λ e. e.1) edge.2) (All-contains (λ (e : Edge). HasNode g e.child) g.edges edge.0 graph.children edge.1),
      )

  -- a path begins at a node
  pub begins_at_node : (p q : Text) → Path (JoinedIn g) p q → HasNode g p
  begins_at_node p q path = ⊎_elim (λ arc. (joins_nodes p q arc).0) (λ w. (joins_nodes p w.0 w.1).0) (first_arc (JoinedIn g) p q path)

  -- a path ends at a node
  pub ends_at_node : (p q : Text) → Path (JoinedIn g) p q → HasNode g q
  ends_at_node p q path = ⊎_elim (λ arc. (joins_nodes p q arc).1) (λ w. (joins_nodes w.0 q w.2).1) (last_arc (JoinedIn g) p q path)

  -- no two nodes have one name
  pub names_once : AreOnce (map name_of g.nodes)
  names_once = one_place nat_list_cmp_total ties_are_equal name_of (map name_of g.nodes) graph.nodes

  -- the place of a node is that of its name
  pub name_at : (name : Text) (i : ℕ) → IsPlaceOf byte_cmp name_of g.nodes name i → IsAt (map name_of g.nodes) name i
  name_at = key_at nat_list_cmp_total ties_are_equal name_of g.nodes

  -- a mark after a search from p tells of paths to q
  pub told_by_mark : (numbers : List (ℕ × ℕ)) (heads : List (List ℕ)) (marks : List Bool) (p q : Text) (i j : ℕ)
      → AreNumbered (map name_of g.nodes) (arcs_of g) numbers → AreHeads (length g.nodes) numbers heads
      → IsPlaceOf byte_cmp name_of g.nodes p i → IsPlaceOf byte_cmp name_of g.nodes q j → MarksReached heads i marks → (is : Bool)
      → is ≡ get_or marks j false → IsTrue is ↔ Path (JoinedIn g) p q
  told_by_mark numbers heads marks p q i j numbered are at_i at_j told is read =
      let by_mark = told_by_marks (map name_of g.nodes) (arcs_of g) numbers heads marks numbered (rw (length-map g.nodes name_of) are)
      names_once p q i j (name_at p i at_i) (name_at q j at_j) told in
      (λ t. by_mark.0 (sym read ∙ t), λ path. read ∙ by_mark.1 path)

  -- the ends of the edge at a place are nodes
  pub edge_ends : (i : ℕ) (e : Edge) → i < length g.edges → e ≡ get_or g.edges i e → HasNode g e.parent × HasNode g e.child
  edge_ends i e lt is =
      (subst (λ x. HasNode g x.parent) (sym is) (graph.parents i e lt), subst (λ x. HasNode g x.child) (sym is) (graph.children i e lt))

-- the numbers of one edge more
pub numbered_more : (keys : List Text) (edges : List Edge) (i : ℕ) (e : Edge) (numbers : List (ℕ × ℕ)) (a b : ℕ) → i < length edges
    → e ≡ get_or edges i e → AreNumbered keys (map ends_of (take i edges)) numbers → IsAt keys e.parent a → IsAt keys e.child b
    → AreNumbered keys (map ends_of (take (i + 1) edges)) (numbers ++ (a, b) ∷ [])
numbered_more keys edges i e numbers a b lt is so_far at_a at_b =
    rw (take_more edges i e lt, ← is, map-append) (zip_push _ (map ends_of (take i edges)) numbers (ends_of e) (a, b) so_far (at_a, at_b))

-- an answer that tells of paths is what is computed
pub told_path : (g : Content) (p q : Text) (is : Bool) → Decides is (Path (JoinedIn g) p q) → is ≡ reaches_in g p q
told_path g p q is tells = same_from_decides is (reaches_in g p q) tells (reaches_decides bytes_eq bytes_decides (arcs_of g) p q)

-- where no path leads the computed answer is `false`
pub no_path : (g : Content) (p q : Text) → (Path (JoinedIn g) p q → ⊥) → false ≡ reaches_in g p q
no_path g p q none = told_path g p q false (told_false none)
