-- The file that is written of a writable graph: its edges are the graph's, and it has no fault.
use Rattle.std.proofs.Common.{◌≡◌, refl, sym, ap, subst, ◌∙◌, false, not, Some, None, List, [], ◌∷◌, map, filter, Contains, ◌↔◌, option_map, is_none}
use Rattle.std.specs.Cmp.Lexicographic.{bytes_decides}
use Rattle.std.specs.Str.{bytes_eq}
use Rattle.std.proofs.lemmas.List.Elements.{All-contains}
use Rattle.reachability.proofs.CountLaws.{has_first, has_image, has_later, image_of}
use Rattle.reachability.proofs.SpreadLaws.{from_filter, in_filter}
use Rattle.keyed_lists.proofs.GivenLaws.{given_at}
use Rattle.variant_values.proofs.Keys.{lacks_all}
use Rattle.spec_grammar.specs.Canonical.{word_text}
use Rattle.spec_grammar.specs.declared.part.Spec.{Spec}
use Rattle.graph_core.specs.Graphs.{Text, Content, HasNode, IsGraph, edges_from, name_of}
use Rattle.graph_core.specs.declared.node.Edge.{Edge}
use Rattle.graph_core.specs.declared.node.Node.{Node}
use Rattle.graph_core.specs.declared.node.Origin.{Origin}
use Rattle.graph_core.specs.declared.node.Origin.TheVariants.{Built, External, Installed}
use Rattle.reuse_db.specs.Canonical.{right_hash}
use Rattle.reuse_db.specs.Databases.{AreRecords}
use Rattle.reuse_db.specs.declared.record.Dependency.{Dependency}
use Rattle.reuse_db.specs.declared.record.Record.{Record}
use Rattle.lock_writer.specs.Hashes.{child_of, node_hash, node_record}
use Rattle.lock_writer.specs.Texts.{IsOfNode}
use Rattle.lockfile.specs.Children.{all_edges, children_by, locked_children, locked_edge, edges_of, is_link_or_run, named_by, without_build}
use Rattle.lockfile.specs.Faults.{IsSoundFile, lost_child, lost_from, lost_root, records_of, named_after, wrongly_hashed}
use Rattle.lockfile.specs.declared.node.LockedNode.{LockedNode}
use Rattle.lockfile.specs.Again.{by_hash, sorted}
use Rattle.lockfile.specs.Formed.{locked, locked_file, locked_root}
use Rattle.lockfile.specs.Writable.{IsWritable, children_in}
use Rattle.lockfile.proofs.FileLaws.{names_same}
use Rattle.json_readers.proofs.Once.{some_one}
use Rattle.lockfile.proofs.Lists.{find_no, find_one, from_flat, in_flat, in_given}
use Rattle.lockfile.proofs.NodeLaws.{same_hash}
use Rattle.lockfile.proofs.OrderLaws.{same_dependencies}
use Rattle.lockfile.proofs.WrittenLaws.{never_named_twice}
use Rattle.lockfile.proofs.WrittenNodes.{from_node, is_written}

-- the children by more dependencies are more
more_children : (origin : Origin) (ds es : List Dependency) → ((d : Dependency) → Contains ds d → Contains es d) → (d : Dependency)
    → Contains (children_by origin ds) d → Contains (children_by origin es) d
more_children Built ds es more d has = more d has
more_children (External entry) ds es more d has = more d has
more_children (Installed hash) ds es more d has =
    let from = image_of without_build (filter is_link_or_run ds) d has in
    let kept = from_filter is_link_or_run ds from.0 from.1 in
    subst (Contains (map without_build (filter is_link_or_run es))) from.2
    (has_image without_build (filter is_link_or_run es) from.0 (in_filter is_link_or_run es from.0 (more from.0 kept.0) kept.1))

no_child_lost : (nodes from : List LockedNode) → ((node : LockedNode) → Contains from node → lost_child nodes node ≡ None)
    → lost_from nodes from ≡ None
no_child_lost nodes [] none = refl
no_child_lost nodes (node ∷ from) none = rw (none node (has_first node from))
    (no_child_lost nodes from (λ n has. none n (has_later node from n has)))

no_root_lost : (nodes : List LockedNode) (name : Spec → Text) (f : Spec → Text × Text) (roots : List Spec)
    → ((root : Spec) → Contains roots root → named_by nodes (f root).1 ≡ Some (name root)) → lost_root nodes (map f roots) ≡ None
no_root_lost nodes name f [] there = refl
no_root_lost nodes name f (root ∷ roots) there =
    rw (there root (has_first root roots)) (no_root_lost nodes name f roots (λ r has. there r (has_later root roots r has)))

module _ (g : Content) (records : List Record) (graph : IsGraph g) (right : AreRecords records) (fit : IsWritable g records) where
  abbrev nodes : List LockedNode
  nodes = map (locked g records) g.nodes

  name_written : (node : Node) → Contains g.nodes node → (node_record g records node).name ≡ node.name
  name_written node has = ap name_of (is_written g records graph right fit node has).same

  -- ---- names by hashes

  -- the hash of a node names it
  pub named : (name : Text) → HasNode g name → named_by nodes (node_hash g name) ≡ Some name
  named name has =
      let from = image_of name_of g.nodes name has in
      let node = from.0 in
      let hash : (n : Node) → Contains g.nodes n → (node_record g records n).hash ≡ node_hash g n.name =
      λ n there. (is_written g records graph right fit n there).hash in
      let one = find_one (λ (n : LockedNode). n.described.hash) nodes (locked g records node)
      (λ other there same.
      let of = image_of (locked g records) g.nodes other there in
      let alike : node_hash g of.0.name ≡ node_hash g node.name = sym (hash of.0 of.1) ∙ ap (λ (n : LockedNode). n.described.hash) of.2
      ∙ same ∙ hash node from.1 in
      sym of.2 ∙ ap (locked g records) (fit.apart of.0 node of.1 from.1 alike))
      (has_image (locked g records) g.nodes node from.1) in
      let is : (node_record g records node).hash ≡ node_hash g name = hash node from.1 ∙ ap (node_hash g) from.2 in
      ap (λ h. named_by nodes h) (sym is) ∙ ap (λ o. option_map (λ (n : LockedNode). n.described.name) o) one
      ∙ ap (λ n. Some n) (name_written node from.1 ∙ from.2)

  -- ---- children and edges

  -- the children that are read of a node are those of its edges
  pub children_again : (node : Node) → Contains g.nodes node → (d : Dependency) → Contains (children_in g node) d
      ↔ Contains (locked_children (locked g records node)) d
  children_again node has d =
      let is = is_written g records graph right fit node has in
      let ds = (node_record g records node).dependencies in
      let same = same_dependencies ds is.form.once in (
        λ there. more_children node.origin ds (by_hash ds) (λ e. (same e).0) d ((is.edges d).0 there),
        λ there. (is.edges d).1 (more_children node.origin (by_hash ds) ds (λ e. (same e).1) d there),
      )

  edge_again : (node : Node) → Contains g.nodes node → (e : Edge) → Contains (edges_from g node.name) e
      → locked_edge (locked g records node).described.name (child_of (node_hash g) e) (named_by nodes (node_hash g e.child)) ≡ Some e
  edge_again node has e there =
      let from = from_node g node.name e there in
      let child = All-contains (λ (x : Edge). HasNode g x.child) g.edges e graph.children from.0 in
      rw (named e.child child)
      (ap (λ parent. Some (let x : Edge = record { parent = parent; child = e.child; kinds = e.kinds; virtuals = e.virtuals } in x))
      (name_written node has ∙ sym from.1))

  -- what is read of the child of an edge is an edge
  edge_kept : (node : Node) → Contains g.nodes node → (e f : Edge) (d : Dependency) → Contains (edges_from g node.name) e
      → child_of (node_hash g) e ≡ d → locked_edge (locked g records node).described.name d (named_by nodes d.hash) ≡ Some f
      → Contains g.edges f
  edge_kept node has e f d there is made =
      let one = some_one (locked_edge (locked g records node).described.name (child_of (node_hash g) e)
      (named_by nodes (node_hash g e.child)))
      e f
      (edge_again node has e there) (subst (λ x. locked_edge (locked g records node).described.name x (named_by nodes x.hash) ≡ Some f)
      (sym is) made) in
      subst (Contains g.edges) one (from_node g node.name e there).0

  -- each edge of the graph is read
  pub edge_read : (e : Edge) → Contains g.edges e → Contains (all_edges nodes nodes) e
  edge_read e has =
      let from = image_of name_of g.nodes e.parent (All-contains (λ (x : Edge). HasNode g x.parent) g.edges e graph.parents has) in
      let node = from.0 in
      let here = in_filter (λ (x : Edge). bytes_eq x.parent node.name) g.edges e has ((bytes_decides e.parent node.name).1 (sym from.2)) in
      let child = (children_again node from.1 (child_of (node_hash g) e)).0
      (has_image (child_of (node_hash g)) (edges_from g node.name) e here) in
      in_flat (edges_of nodes) nodes (locked g records node) e (has_image (locked g records) g.nodes node from.1)
      (in_given (λ (d : Dependency). locked_edge (locked g records node).described.name d (named_by nodes d.hash))
      (locked_children (locked g records node)) (child_of (node_hash g) e) e child (edge_again node from.1 e here))

  -- each edge that is read is one of the graph
  pub edge_of_graph : (e : Edge) → Contains (all_edges nodes nodes) e → Contains g.edges e
  edge_of_graph e has =
      let flat = from_flat (edges_of nodes) nodes e has in
      let of = image_of (locked g records) g.nodes flat.0 flat.1 in
      let node = of.0 in
      let there = subst (λ n. Contains (edges_of nodes n) e) (sym of.2) flat.2 in
      let given = given_at (λ (d : Dependency). locked_edge (locked g records node).described.name d (named_by nodes d.hash))
      (locked_children (locked g records node)) e there in
      let from = image_of (child_of (node_hash g)) (edges_from g node.name) given.0 ((children_again node of.1 given.0).1 given.1) in
      edge_kept node of.1 from.0 e given.0 from.1 from.2 given.2

  -- ---- no fault

  child_known : (node : LockedNode) → Contains nodes node → lost_child nodes node ≡ None
  child_known node has = ap (λ o. option_map (λ (d : Dependency). d.hash) o)
      (find_no (λ (d : Dependency). is_none (named_by nodes d.hash)) (locked_children node) (λ d there.
      let of = image_of (locked g records) g.nodes node has in
      let from = image_of (child_of (node_hash g)) (edges_from g of.0.name) d
      ((children_again of.0 of.1 d).1 (subst (λ n. Contains (locked_children n) d) (sym of.2) there)) in
      let edge = from_node g of.0.name from.0 from.1 in
      let child = named from.0.child (All-contains (λ (x : Edge). HasNode g x.child) g.edges from.0 graph.children edge.0) in
      ap is_none (ap (λ (x : Dependency). named_by nodes x.hash) (sym from.2) ∙ child)))

  hashes_right : wrongly_hashed nodes ≡ None
  hashes_right = find_no (λ (entry : Record). not (bytes_eq entry.hash (right_hash entry))) (records_of nodes) (λ entry has.
      let at = image_of (λ (n : LockedNode). n.described) nodes entry has in
      let of = image_of (locked g records) g.nodes at.0 at.1 in
      let own = node_record g records of.0 in
      let is : sorted own ≡ entry = ap (λ (n : LockedNode). n.described) of.2 ∙ at.2 in
      let same : own.hash ≡ right_hash (sorted own) = (is_written g records graph right fit of.0 of.1).right ∙ sym (same_hash own) in
      subst (λ (r : Record). not (bytes_eq r.hash (right_hash r)) ≡ false) is
      (rw ((bytes_decides own.hash (right_hash (sorted own))).1 same) refl))

  -- the file of a writable graph has no fault
  pub is_sound : (roots : List Spec) → ((root : Spec) → Contains roots root → IsOfNode g root) → IsSoundFile (locked_file g records roots)
  is_sound roots known = record {
    named = ap (λ names. named_after [] names) (names_same g records g.nodes name_written)
        ∙ never_named_twice [] (map name_of g.nodes) (λ b k none has. absurd (lacks_all b none)) graph.nodes;
    hashed = hashes_right;
    known = rw (no_child_lost nodes nodes child_known)
        (no_root_lost nodes (λ root. word_text root.top.name) (locked_root g) roots
        (λ root has. named (word_text root.top.name) (known root has)));
  }
