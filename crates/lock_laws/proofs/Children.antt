-- The edges of an installed node are its record's.
use Rattle.std.proofs.Common.{◌≡◌, refl, sym, ap, subst, ◌∙◌, Bool, true, false, ◌&&◌, map, filter, Contains, ◌↔◌, Some}
use Rattle.std.specs.List.{list_all}
use Rattle.std.specs.Str.{bytes_eq}
use Rattle.std.specs.Cmp.{tied_itself}
use Rattle.std.proofs.lemmas.Bool.{and_parts}
use Rattle.keyed_lists.proofs.KeyedLaws.{find_some}
use Rattle.keyed_lists.proofs.LookupLaws.{find_sound}
use Rattle.graph_core.specs.Graphs.{Content, IsGraph, Text, edge_of, edges_from, ends_of, node_of}
use Rattle.graph_core.specs.declared.node.Edge.{Edge}
use Rattle.graph_core.specs.declared.node.Kinds.{Kinds}
use Rattle.graph_core.specs.declared.node.Node.{Node}
use Rattle.graph_core.specs.declared.node.Origin.{Origin}
use Rattle.graph_core.specs.declared.node.Origin.TheVariants.{Built, External, Installed}
use Rattle.graph_core.proofs.PairLaws.{pair_exact, pair_total}
use Rattle.reuse_db.specs.declared.record.Dependency.{Dependency}
use Rattle.reuse_db.specs.declared.record.Record.{Record}
use Rattle.condition_rules.specs.Words.{implies, is_some_and}
use Rattle.problem.specs.Nodes.{covers, is_installed}
use Rattle.problem.specs.Problems.{Problem, record_at}
use Rattle.problem.specs.Records.{kept_dependencies}
use Rattle.graph_rules.specs.Kept.{is_child, is_recorded, keeps_child, keeps_origin, same_attributes}
use Rattle.reuse_db.specs.Installed.{installed_node}
use Rattle.graph_rules.proofs.KeptLaws.{lists-same}
use Rattle.graph_rules.proofs.Lists.{In, In-contains, In-map, any-in, bytes_eq-itself, bytes_eq-same, contains-In, from_filter, from_map, list_all-each, some-and, to_filter}
use Rattle.lock_writer.specs.Hashes.{child_of, hash_over, node_hash}
use Rattle.lockfile.specs.Children.{is_link_or_run, without_build}
use Rattle.lockfile.specs.Writable.{children_in}

-- ---- kinds

both-ways : (a b : Bool) → implies a b ≡ true → implies b a ≡ true → b ≡ a
both-ways true true h k = refl
both-ways true false h k = absurd cc
both-ways false true h k = absurd cc
both-ways false false h k = refl

-- kinds that cover each other are the same
kinds-same : (a b : Kinds) → covers a b ≡ true → covers b a ≡ true → a ≡ b
kinds-same a b h k =
    let p = and_parts _ _ h in
    let q = and_parts _ _ p.0 in
    let r = and_parts _ _ k in
    let s = and_parts _ _ r.0 in
    let build = both-ways b.build a.build q.0 s.0 in
    let link = both-ways b.link a.link q.1 s.1 in
    let run = both-ways b.run a.run p.1 r.1 in
    λ i. record { build = build i; link = link i; run = run i }

-- an installed node has that origin
origin-is : (hash : Text) (node : Node) (origin : Origin) → node.origin ≡ origin → is_installed hash node ≡ true
    → node.origin ≡ Installed hash
origin-is hash node Built e h = absurd (let bad : false ≡ true = rw e at h in cc)
origin-is hash node (External place) e h = absurd (let bad : false ≡ true = rw e at h in cc)
origin-is hash node (Installed other) e h =
    let same : bytes_eq other hash ≡ true = rw e at h in e ∙ ap Installed (bytes_eq-same other hash same)

-- ---- edges by their ends

-- an edge is the one that its ends find
edge-itself : (graph : Content) (edge : Edge) → IsGraph graph → In edge graph.edges → edge_of graph edge.parent edge.child ≡ Some edge
edge-itself graph edge is there =
    find_some pair_total pair_exact ends_of graph.edges (ends_of edge) edge is.edges (In-contains graph.edges edge there)
    (tied_itself pair_total (ends_of edge))

-- what the ends find is an edge with these ends
edge-found : (graph : Content) (parent child : Text) (edge : Edge) → edge_of graph parent child ≡ Some edge
    → In edge graph.edges × (edge.parent ≡ parent) × (edge.child ≡ child)
edge-found graph parent child edge e =
    let found = find_sound pair_total pair_exact ends_of graph.edges (parent, child) edge e in
    (contains-In graph.edges edge found.0, ap (λ (p : Text × Text). p.0) found.1, ap (λ (p : Text × Text). p.1) found.1)

module _ (problem : Problem) (graph : Content) (is : IsGraph graph)
    (hashes : (name : Text) (node : Node) → node_of graph name ≡ Some node → node_hash graph name ≡ hash_over graph (node_hash graph) node)
    (node : Node) (hash : Text) (entry : Record) (found : record_at problem hash ≡ Some entry)
    (kept : keeps_origin problem graph node (Installed hash) ≡ true) where
  parts : (list_all (keeps_child problem graph node.name) (kept_dependencies entry) ≡ true)
      × (list_all (is_child problem entry) (edges_from graph node.name) ≡ true)
  parts =
      let some = some-and (record_at problem hash) _ kept in
      let same : some.0 ≡ entry = let both : Some some.0 ≡ Some entry = sym some.1 ∙ found in cc in
      let all = and_parts _ _ (subst (λ (r : Record). (same_attributes node (installed_node r)
      && list_all (keeps_child problem graph node.name) (kept_dependencies r)
      && list_all (is_child problem r) (edges_from graph node.name)) ≡ true) same some.2) in
      ((and_parts _ _ all.0).1, all.1)

  -- a node with the record's hash has that hash
  hash-of : (name : Text) (child : Node) (h : Text) → node_of graph name ≡ Some child → is_installed h child ≡ true
      → node_hash graph name ≡ h
  hash-of name child h e there = hashes name child e ∙ rw (origin-is h child child.origin refl there) refl

  -- a child of the record has its edge
  pub edge-of-child : (d : Dependency) → In d (kept_dependencies entry) → (child : Record) → record_at problem d.hash ≡ Some child
      → (edge : Edge) × In edge (edges_from graph node.name) × (edge.child ≡ child.name)
      × (child_of (node_hash graph) edge ≡ without_build d)
  edge-of-child d there child named =
      let keeps = list_all-each (keeps_child problem graph node.name) (kept_dependencies entry) d parts.0 there in
      let some = some-and (record_at problem d.hash) _ keeps in
      let same : some.0 ≡ child = let both : Some some.0 ≡ Some child = sym some.1 ∙ named in cc in
      let all = and_parts _ _ some.2 in
      let two = and_parts _ _ all.0 in
      let target = some-and (node_of graph some.0.name) (is_installed d.hash) two.0 in
      let edge = some-and (edge_of graph node.name some.0.name) (is_recorded d) two.1 in
      let ends = edge-found graph node.name some.0.name edge.0 edge.1 in
      let told = and_parts _ _ edge.2 in
      let kinds = and_parts _ _ told.0 in
      let of_hash : node_hash graph edge.0.child ≡ d.hash =
      ap (node_hash graph) ends.2 ∙ hash-of some.0.name target.0 d.hash target.1 target.2 in
      let of_kinds : edge.0.kinds ≡ record d.kinds { build = false } =
      kinds-same edge.0.kinds (record d.kinds { build = false }) kinds.0 kinds.1 in
      let of_virtuals : edge.0.virtuals ≡ d.virtuals = lists-same bytes_eq bytes_eq-same edge.0.virtuals d.virtuals told.1 in (
        edge.0,
        to_filter (λ (e : Edge). bytes_eq e.parent node.name) graph.edges edge.0 ends.0
            (subst (λ n. bytes_eq n node.name ≡ true) (sym ends.1) (bytes_eq-itself node.name)),
        ends.2 ∙ ap (λ (r : Record). r.name) same,
        λ i. record { hash = of_hash i; kinds = of_kinds i; virtuals = of_virtuals i },
      )

  -- an edge is that of a child of the record
  pub child-of-edge : (edge : Edge) → In edge (edges_from graph node.name)
      → (d : Dependency) × In d (kept_dependencies entry) × (child_of (node_hash graph) edge ≡ without_build d)
  child-of-edge edge there =
      let some = any-in (λ d. is_some_and (record_at problem d.hash) (λ child. bytes_eq child.name edge.child)) (kept_dependencies entry)
      (list_all-each (is_child problem entry) (edges_from graph node.name) edge parts.1 there) in
      let child = some-and (record_at problem some.0.hash) (λ child. bytes_eq child.name edge.child) some.2 in
      let other = edge-of-child some.0 some.1 child.0 child.1 in
      let mine = from_filter (λ (e : Edge). bytes_eq e.parent node.name) graph.edges edge there in
      let yours = from_filter (λ (e : Edge). bytes_eq e.parent node.name) graph.edges other.0 other.1 in
      let parents : edge.parent ≡ other.0.parent =
      bytes_eq-same edge.parent node.name mine.1 ∙ sym (bytes_eq-same other.0.parent node.name yours.1) in
      let children : edge.child ≡ other.0.child = sym (bytes_eq-same child.0.name edge.child child.2) ∙ sym other.2 in
      let both : Some edge ≡ Some other.0 =
      sym (edge-itself graph edge is mine.0) ∙ (λ i. edge_of graph (parents i) (children i)) ∙ edge-itself graph other.0 is yours.0 in
      let same : edge ≡ other.0 = cc in
      (some.0, some.1, ap (child_of (node_hash graph)) same ∙ other.3)

  -- so the children are those of the record
  pub same-children : (child : Dependency) → Contains (children_in graph node) child
      ↔ Contains (map without_build (filter is_link_or_run entry.dependencies)) child
  same-children child = (
    λ there.
        let from = from_map (child_of (node_hash graph)) (edges_from graph node.name) child
        (contains-In (children_in graph node) child there) in
        let d = child-of-edge from.0 from.1 in
        In-contains _ child (subst (λ c. In c (map without_build (filter is_link_or_run entry.dependencies))) (sym (from.2 ∙ d.2))
        (In-map without_build (filter is_link_or_run entry.dependencies) d.0 d.1)),
    λ there.
        let from = from_map without_build (filter is_link_or_run entry.dependencies) child (contains-In _ child there) in
        let keeps = list_all-each (keeps_child problem graph node.name) (kept_dependencies entry) from.0 parts.0 from.1 in
        let some = some-and (record_at problem from.0.hash) _ keeps in
        let edge = edge-of-child from.0 from.1 some.0 some.1 in
        In-contains (children_in graph node) child (subst (λ c. In c (children_in graph node)) (edge.3 ∙ sym from.2)
        (In-map (child_of (node_hash graph)) (edges_from graph node.name) edge.0 edge.1)),
  )
