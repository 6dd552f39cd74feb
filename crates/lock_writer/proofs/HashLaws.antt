-- Hashes of nodes: over as many steps down as a node waits rounds, they are settled.
use Rattle.std.proofs.Common.{◌≡◌, refl, sym, ap, subst, ◌∙◌, ℕ, zero, suc, ◌-◌, ◌<◌, ◌≤◌, List, [], ◌∷◌, length, map, Contains, Option, Some, None, arith}
use Rattle.std.proofs.lemmas.List.{length-map}
use Rattle.std.specs.Cmp.Lexicographic.{nat_list_cmp_total, bytes_decides}
use Rattle.std.specs.Str.{bytes_eq}
use Rattle.variant_values.proofs.Texts.{ties_are_equal}
use Rattle.reachability.specs.Paths.{IsAcyclic, level}
use Rattle.reachability.proofs.CountLaws.{has_first, has_later, has_image}
use Rattle.reachability.proofs.ReachLaws.{level_rises, level_below}
use Rattle.reachability.proofs.SpreadLaws.{from_filter}
use Rattle.keyed_lists.proofs.LookupLaws.{find_sound}
use Rattle.graph_core.specs.Graphs.{Text, Content, IsGraph, HasNode, name_of, ends_of, node_of, edges_from}
use Rattle.graph_core.specs.Paths.{arcs_of, JoinedIn}
use Rattle.graph_core.specs.declared.node.Edge.{Edge}
use Rattle.graph_core.specs.declared.node.Node.{Node}
use Rattle.graph_core.proofs.PathLaws.{joins_nodes}
use Rattle.reuse_db.specs.Canonical.{right_hash}
use Rattle.lock_writer.specs.Hashes.{child_of, hash_by, record_of_node, hash_over, hash_at, hash_within, node_hash}
use Rattle.lock_writer.specs.Known.{names_of, waits}

less_left : (n a b : ℕ) → a < b → b < n → suc (n - b) ≤ n - a
less_left n a b p q = omega (arith, p, q)

some_left : (n a : ℕ) → a < n → n - a ≤ 0 → ⊥
some_left n a p q = omega (arith, p, q)

no_more : (n a : ℕ) → n - a ≤ n
no_more n a = omega arith

below_one : (k : ℕ) → suc k ≤ 0 → ⊥
below_one k p = omega (arith, p)

one_less : (a b k : ℕ) → suc a ≤ b → b ≤ suc k → a ≤ k
one_less a b k p q = omega (arith, p, q)

both_less : (j k : ℕ) → suc k ≤ suc j → k ≤ j
both_less j k p = omega (arith, p)

one_more : (n : ℕ) → n ≤ suc n
one_more n = omega arith

map_same : {X Y : Type 0} (f h : X → Y) (xs : List X) → ((x : X) → Contains xs x → f x ≡ h x) → map f xs ≡ map h xs
map_same f h [] same = refl
map_same f h (x ∷ xs) same =
    let first = same x (has_first x xs) in
    let rest = map_same f h xs (λ y has. same y (has_later x xs y has)) in
    ap (λ y. y ∷ map f xs) first ∙ ap (λ ys. h x ∷ ys) rest

-- no node waits for more rounds than there are nodes
pub waits_below : (g : Content) (name : Text) → waits g name ≤ length g.nodes
waits_below g name = no_more (length g.nodes) (level bytes_eq (arcs_of g) (names_of g) name)

module _ (g : Content) (graph : IsGraph g) where
  -- an edge from a name joins it to its child
  pub edge_joins : (name : Text) (edge : Edge) → Contains (edges_from g name) edge → JoinedIn g name edge.child
  edge_joins name edge has =
      let from = from_filter (λ (e : Edge). bytes_eq e.parent name) g.edges edge has in
      subst (λ p. Contains (arcs_of g) (p, edge.child)) ((bytes_decides edge.parent name).0 from.1) (has_image ends_of g.edges edge from.0)

  -- a child is a node
  pub child_there : (name : Text) (edge : Edge) → Contains (edges_from g name) edge → HasNode g edge.child
  child_there name edge has = (joins_nodes g graph name edge.child (edge_joins name edge has)).1

  module _ (acyclic : IsAcyclic (JoinedIn g)) where
    abbrev level_of : Text → ℕ
    level_of = level bytes_eq (arcs_of g) (names_of g)

    level_low : (name : Text) → HasNode g name → level_of name < length g.nodes
    level_low name has = rw (← length-map g.nodes name_of) (level_below bytes_eq bytes_decides (arcs_of g) acyclic (names_of g) name has)

    -- a child waits less than its parent
    pub child_waits : (name : Text) (edge : Edge) → Contains (edges_from g name) edge → suc (waits g edge.child) ≤ waits g name
    child_waits name edge has =
        let joins = edge_joins name edge has in
        let nodes = joins_nodes g graph name edge.child joins in
        less_left (length g.nodes) (level_of name) (level_of edge.child)
        (level_rises bytes_eq bytes_decides (arcs_of g) acyclic (names_of g) name edge.child nodes.0 joins)
        (level_low edge.child nodes.1)

    -- a node waits for one round at least
    pub waits_some : (name : Text) → HasNode g name → waits g name ≤ 0 → ⊥
    waits_some name has = some_left (length g.nodes) (level_of name) (level_low name has)

    same_at : (f h : Text → Text) (name : Text) (found : Option Node) → ((node : Node) → found ≡ Some node → node.name ≡ name)
        → ((edge : Edge) → Contains (edges_from g name) edge → f edge.child ≡ h edge.child) → hash_at g f found ≡ hash_at g h found
    same_at f h name None named same = refl
    same_at f h name (Some node) named same =
        ap (λ list. hash_by node.origin (right_hash (record_of_node node [] list)))
        (map_same (child_of f) (child_of h) (edges_from g node.name)
        (λ edge has. ap (λ hash. record { hash = hash; kinds = edge.kinds; virtuals = edge.virtuals })
        (same edge (subst (λ n. Contains (edges_from g n) edge) (named node refl) has))))

    -- over more steps the hash is the same
    settled : (k : ℕ) (name : Text) → HasNode g name → waits g name ≤ k → (j : ℕ) → k ≤ j → hash_within j g name ≡ hash_within k g name
    unfolding hash_within
    settled zero name has w j le = absurd (waits_some name has w)
    settled (suc k) name has w zero le = absurd (below_one k le)
    settled (suc k) name has w (suc j) le =
        same_at (hash_within j g) (hash_within k g) name (node_of g name)
        (λ node found. (find_sound nat_list_cmp_total ties_are_equal name_of g.nodes name node found).1)
        (λ edge from. settled k edge.child (child_there name edge from) (one_less _ _ _ (child_waits name edge from) w) j
        (both_less j k le))

    one_step : (steps : ℕ) (name : Text) (node : Node) → node_of g name ≡ Some node
        → hash_within (suc steps) g name ≡ hash_over g (hash_within steps g) node
    unfolding hash_within
    one_step steps name node found = ap (hash_at g (hash_within steps g)) found

    -- a node has the hash that those of its children give it
    pub hash_from_children : (name : Text) (node : Node) → node_of g name ≡ Some node → node_hash g name ≡ hash_over g (node_hash g) node
    hash_from_children name node found =
        let n = length g.nodes in
        let sound = find_sound nat_list_cmp_total ties_are_equal name_of g.nodes name node found in
        let has : HasNode g name = subst (HasNode g) sound.1 (has_image name_of g.nodes node sound.0) in
        sym (settled n name has (no_more n (level_of name)) (suc n) (one_more n)) ∙ one_step n name node found
