-- Edges and providers have their forms.
use Rattle.std.proofs.Common.{◌≡◌, refl, sym, ap, subst, ◌∙◌, true, false, ◌||◌, map, All, Contains, Some, None}
use Rattle.std.specs.List.{list_all}
use Rattle.std.specs.Str.{bytes_eq}
use Rattle.std.proofs.lemmas.Bool.{and_parts}
use Rattle.variant_values.specs.Texts.{IsInByteOrder}
use Rattle.json_texts.specs.Forms.{name_meaning}
use Rattle.graph_core.specs.Graphs.{Content, Text, edges_from, name_of, node_of}
use Rattle.graph_core.specs.declared.node.Edge.{Edge}
use Rattle.graph_core.specs.declared.node.Node.{Node}
use Rattle.graph_core.specs.declared.node.Origin.{Origin}
use Rattle.graph_core.specs.declared.node.Origin.TheVariants.{Built, External, Installed}
use Rattle.recipe_data.specs.declared.recipe.ProvideRow.{ProvideRow}
use Rattle.reuse_db.specs.declared.record.Dependency.{Dependency}
use Rattle.virtuals.specs.Virtuals.{is_virtual, provides_name}
use Rattle.condition_rules.specs.Meets.{provides, row_provides}
use Rattle.problem.specs.Nodes.{IsWellFormed}
use Rattle.problem.specs.Problems.{Problem, provides_at, record_at, world_of}
use Rattle.graph_rules.specs.Built.{asking, is_asked, is_asked_virtual, keeps_extra_edge, names_virtual}
use Rattle.graph_rules.specs.Kept.{keeps_kept, keeps_origin}
use Rattle.graph_rules.specs.Valid.{keeps, valid}
use Rattle.graph_rules.specs.Whole.{keeps_provider}
use Rattle.graph_rules.specs.declared.rule.Rule.TheVariants as rules
use Rattle.graph_rules.proofs.Lists.{In, any-in, bytes_eq-itself, bytes_eq-same, contains-In, from_filter, from_map, list_all-each, some-and, to_filter}
use Rattle.graph_rules.proofs.ValidLaws.{rule-of}
use Rattle.graph_rules.proofs.BuiltTests.{at_built}
use Rattle.lock_writer.specs.Hashes.{hash_over, node_hash}
use Rattle.lockfile.specs.Again.{AreVirtuals, Has, HasKind, IsDependency}
use Rattle.lock_laws.specs.Forms.{IsFormedProblem, IsFormedRecipe}
use Rattle.lock_laws.proofs.Children.{child-of-edge}
use Rattle.lock_laws.proofs.Each.{all-each, all-from}
use Rattle.lock_laws.proofs.Recipes.{row-is}
use Rattle.lock_laws.proofs.Records.{record-is}

module _ (problem : Problem) (graph : Content) (formed : IsFormedProblem problem) (right : IsWellFormed graph)
    (v : valid problem graph ≡ true)
    (hashes : (name : Text) (node : Node) → node_of graph name ≡ Some node
    → node_hash graph name ≡ hash_over graph (node_hash graph) node) where
  -- what recipes provide has a name
  virtual-is : (name : Text) → is_virtual problem.recipes name ≡ true → Has name_meaning name
  unfolding is_virtual provides_name
  virtual-is name h =
      let recipe = any-in (provides_name name) problem.recipes h in
      let row = any-in (λ (r : ProvideRow). bytes_eq r.name name) recipe.0.provides recipe.2 in
      subst (Has name_meaning) (bytes_eq-same row.0.name name row.2)
      (all-each (λ (r : ProvideRow). Has name_meaning r.name) recipe.0.provides row.0
      (all-each IsFormedRecipe problem.recipes recipe.0 formed.recipes recipe.1).provides row.1)

  -- what a list of providers names is provided
  pub provided : All (λ (p : Text × Text). Has name_meaning p.0) graph.providers
  unfolding keeps keeps_provider provides
  provided = all-from (λ (p : Text × Text). Has name_meaning p.0) graph.providers (λ p there.
      let kept = list_all-each (keeps_provider problem graph) graph.providers p (rule-of problem graph rules.Provider v) there in
      let node = some-and (node_of graph p.1) (λ node. provides (world_of problem) node p.0 None) kept in
      let row = any-in (row_provides (world_of problem) node.0 p.0 None) (provides_at problem node.0.name) node.2 in
      subst (Has name_meaning) (bytes_eq-same row.0.name p.0 (and_parts (bytes_eq row.0.name p.0) _ (and_parts _ _ row.2).0).0)
      (row-is problem formed (λ recipe. recipe.provides) (λ (r : ProvideRow). Has name_meaning r.name) (λ recipe r. r.provides)
      node.0.name row.0
      row.1))

  -- ---- edges

  abbrev Right : Edge → Type 0
  Right edge = HasKind edge.kinds × All (Has name_meaning) edge.virtuals

  of-built : (node : Node) → In node graph.nodes → node.origin ≡ Built → (edge : Edge) → In edge (edges_from graph node.name) → Right edge
  unfolding keeps keeps_extra_edge
  of-built node there origin edge from =
      let kept = at_built (keeps_extra_edge problem graph) graph node (rule-of problem graph rules.ExtraEdge v) there (rw origin refl) in
      let asked = and_parts _ _ (list_all-each (is_asked problem graph node) (edges_from graph node.name) edge kept from) in (
        (and_parts _ _ asked.0).0,
        all-from (Has name_meaning) edge.virtuals (λ virtual stands.
            let row = any-in (names_virtual problem virtual) (asking problem graph node edge.child)
            (list_all-each (is_asked_virtual problem graph node edge.child) edge.virtuals virtual asked.1 stands) in
            virtual-is virtual (and_parts (is_virtual problem.recipes virtual) _ row.2).0),
      )

  has-no-edge : (graph : Content) (node : Node) (edge : Edge) → list_all (λ (e : Edge). false) (edges_from graph node.name) ≡ true
      → In edge (edges_from graph node.name) → ⊥
  has-no-edge graph node edge none there =
      let bad : false ≡ true = list_all-each (λ (e : Edge). false) (edges_from graph node.name) edge none there in cc

  of-installed : (node : Node) (hash : Text) → keeps_origin problem graph node (Installed hash) ≡ true → (edge : Edge)
      → In edge (edges_from graph node.name) → Right edge
  of-installed node hash kept edge from =
      let entry = some-and (record_at problem hash) _ kept in
      let d = child-of-edge problem graph right.is_graph hashes node hash entry.0 entry.1 kept edge from in
      let kept-one = from_filter (λ (d : Dependency). d.kinds.link || d.kinds.run) entry.0.dependencies d.0 d.1 in
      let is = all-each IsDependency entry.0.dependencies d.0 (record-is problem formed hash entry.0 entry.1).1.each kept-one.0 in (
        subst HasKind (sym (ap (λ (x : Dependency). x.kinds) d.2)) kept-one.1,
        subst (All (Has name_meaning)) (sym (ap (λ (x : Dependency). x.virtuals) d.2)) is.virtuals.names,
      )

  by-origin : (node : Node) → In node graph.nodes → (origin : Origin) → node.origin ≡ origin → (edge : Edge)
      → In edge (edges_from graph node.name) → Right edge
  unfolding keeps keeps_kept
  by-origin node there Built e edge from = of-built node there e edge from
  by-origin node there (External place) e edge from =
      let kept = list_all-each (keeps_kept problem graph) graph.nodes node (rule-of problem graph rules.Kept v) there in
      let at : keeps_origin problem graph node (External place) ≡ true = ap (keeps_origin problem graph node) (sym e) ∙ kept in
      absurd (has-no-edge graph node edge (and_parts _ _ at).1 from)
  by-origin node there (Installed hash) e edge from =
      let kept = list_all-each (keeps_kept problem graph) graph.nodes node (rule-of problem graph rules.Kept v) there in
      of-installed node hash (ap (keeps_origin problem graph node) (sym e) ∙ kept) edge from

  each-edge : (edge : Edge) → In edge graph.edges → Right edge
  each-edge edge there =
      let parent = all-each (λ (e : Edge). Contains (map name_of graph.nodes) e.parent) graph.edges edge right.is_graph.parents there in
      let node = from_map name_of graph.nodes edge.parent (contains-In (map name_of graph.nodes) edge.parent parent) in
      by-origin node.0 node.1 node.0.origin refl edge
      (to_filter (λ (e : Edge). bytes_eq e.parent node.0.name) graph.edges edge there
      (subst (λ n. bytes_eq n node.0.name ≡ true) (sym node.2) (bytes_eq-itself node.0.name)))

  pub kinds : All (λ (edge : Edge). HasKind edge.kinds) graph.edges
  kinds = all-from (λ (edge : Edge). HasKind edge.kinds) graph.edges (λ edge there. (each-edge edge there).0)

  pub named : All (λ (edge : Edge). AreVirtuals edge.virtuals) graph.edges
  named = all-from (λ (edge : Edge). AreVirtuals edge.virtuals) graph.edges (λ edge there. record {
    order = all-each (λ (e : Edge). IsInByteOrder e.virtuals) graph.edges edge right.virtuals there;
    names = (each-edge edge there).1;
  })
