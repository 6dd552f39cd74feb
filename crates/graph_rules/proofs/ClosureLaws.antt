-- Every node of a graph that keeps the rules which are always asked has a name of each closed list.
use Rattle.std.proofs.Common.{◌≡◌, refl, sym, ap, subst, ◌∙◌, Bool, true, false, ◌||◌, ℕ, List, [], ◌∷◌, ◌++◌, cond, Option, Some, None, inl, inr, slice_get}
use Rattle.std.specs.List.{list_all, list_any, filter, flat_map}
use Rattle.std.specs.Option.{option_map, option_and_then, is_some}
use Rattle.std.specs.Str.{bytes_eq}
use Rattle.std.proofs.lemmas.Bool.{and_parts, or_cases, or_left, or_right}
use Rattle.problem.specs.OfGraphCore.Graphs.{Text, Content, node_of, provider_of, edges_from, IsGraph, HasNode, ends_of, name_of, virtual_of}
use Rattle.problem.specs.OfVariantValues.Texts.{byte_cmp}
use Rattle.problem.specs.OfKeyedLists.Keyed.{find_key}
use Rattle.std.specs.Ordering.{eq_by_cmp}
use Rattle.std.specs.Cmp.Lexicographic.{bytes_decides}
use Rattle.std.proofs.lemmas.List.Elements.{All-contains}
use Rattle.problem.specs.OfConditionRules.Words.{is_one_text, if_written}
use Rattle.reachability.specs.Paths.{JoinsEach}
use Rattle.reachability.proofs.CountLaws.{image_of}
use Rattle.reachability.proofs.SpreadLaws.{reaches_decides}
use Rattle.problem.specs.OfGraphCore.Paths.{arcs_of, reaches_in, JoinedIn}
use Rattle.problem.specs.Nodes.{is_built, has_kind, covers}
use Rattle.problem.specs.OfGraphCore.Node.{Node}
use Rattle.problem.specs.OfGraphCore.Edge.{Edge}
use Rattle.problem.specs.OfGraphCore.Kinds.{Kinds}
use Rattle.problem.specs.OfGraphCore.Origin.{Origin}
use Rattle.problem.specs.OfGraphCore.OriginVariants.{Built, External, Installed}
use Rattle.graph_rules.proofs.Lists.{In, In-among, In-contains, contains-In, list_all-each, find-in, In-left, In-right, In-map, In-flat_map, from_map, from_filter, any-in, in-any, to_filter, to_filter_map, some-and, and_then, bytes_eq-same, bytes_eq-itself}
use Rattle.problem.proofs.OfKeyedLists.TextLaws.{texts_decide}
use Rattle.problem.specs.OfConditionRules.Worlds.{recipe_of, rows}
use Rattle.problem.specs.OfVirtuals.Virtuals.{is_virtual, provides_name}
use Rattle.problem.specs.OfConditionRules.Meets.{provides, row_provides}
use Rattle.problem.specs.OfConditionRules.Holds.{asked_node}
use Rattle.problem.specs.OfRecipeData.DependRow.{DependRow}
use Rattle.problem.specs.OfRecipeData.Recipe.{Recipe}
use Rattle.problem.specs.Problems.{world_of, recipe_at, depends_at, package_entry_of, externals_in, is_buildable_in, record_at, asked_by, Problem}
use Rattle.graph_rules.specs.Built.{keeps_buildable, keeps_extra_edge, is_asked, asking, asked_kinds}
use Rattle.graph_rules.specs.Kept.{same_attributes, is_child, keeps_origin, keeps_kept}
use Rattle.problem.specs.OfReuseDb.Installed.{installed_node}
use Rattle.problem.specs.Records.{kept_dependencies}
use Rattle.graph_rules.specs.Whole.{keeps_provider, keeps_reachable}
use Rattle.graph_rules.specs.Valid.{keeps, keeps_all, structure_rules}
use Rattle.problem.specs.Closure.{is_filled, is_known, possible_providers, possible_children, kept_names, next_names, has_known, is_closed}
use Rattle.problem.specs.OfReuseDb.Record.{Record}
use Rattle.graph_rules.specs.declared.rule.Rule.{Rule}
use Rattle.graph_rules.specs.declared.rule.Rule.TheVariants as rules
use Rattle.graph_rules.proofs.BuiltTests.{at_built, implied}
use Rattle.graph_rules.proofs.NumberedRows.{slice_get-in, row-of}

-- ---- a graph that keeps the rules which are always asked

module _ (problem : Problem) (graph : Content) (g : IsGraph graph) (k : keeps_all structure_rules problem graph ≡ true) where
  -- each of them is kept
  pub rule : (r : Rule) → In r structure_rules → keeps r problem graph ≡ true
  rule r there = list_all-each (λ q. keeps q problem graph) structure_rules r k there

  -- its nodes keep their origin's rule
  pub kept : (node : Node) → In node graph.nodes → keeps_origin problem graph node node.origin ≡ true
  unfolding keeps keeps_kept
  kept node there = list_all-each (keeps_kept problem graph) graph.nodes node
      (rule rules.Kept (slice_get-in structure_rules 6 rules.Kept refl)) there

  built_origin : (node : Node) → node.origin ≡ Built → is_built node ≡ true
  built_origin node e = rw e refl

  known-by : (node : Node) → In node graph.nodes → (o : Origin) → node.origin ≡ o → keeps_origin problem graph node o ≡ true
      → is_known problem node.name ≡ true
  unfolding keeps keeps_buildable is_known record_at same_attributes installed_node
  known-by node there Built e h =
      let buildable = at_built (keeps_buildable problem) graph node
      (rule rules.Buildable (slice_get-in structure_rules 0 rules.Buildable refl)) there (built_origin node e) in
      or_left _ _ (or_left _ _ (and_parts (is_some (recipe_at problem node.name))
      (is_buildable_in (package_entry_of problem node.name)) buildable).0)
  known-by node there (External place) e h =
      let found = some-and (slice_get (externals_in (package_entry_of problem node.name)) place) _ (and_parts _ _ h).0 in
      or_left _ _ (or_right _ _ (is_there (externals_in (package_entry_of problem node.name)) place found.0 found.1))
    where
      is_there : {T : Type 0} (xs : List T) (i : ℕ) (x : T) → slice_get xs i ≡ Some x → is_filled xs ≡ true
      is_there [] i x none = absurd (let wrong : None ≡ Some x = none in cc)
      is_there (y ∷ ys) i x is = refl
  known-by node there (Installed hash) e h =
      let found = some-and (record_at problem hash) _ h in
      let same = (and_parts _ _
      (and_parts _ _
      (and_parts _ _ (and_parts _ _ (and_parts _ _ (and_parts _ _ (and_parts _ _ (and_parts _ _ found.2).0).0).0).0).0).0).0).0 in
      or_right _ _ (in-any (λ entry. bytes_eq entry.name node.name) problem.database found.0 (find-in _ problem.database found.0 found.1).0
      (ap (λ n. bytes_eq n node.name) (sym (bytes_eq-same node.name found.0.name same)) ∙ bytes_eq-itself node.name))

  -- its nodes can be built, are external or installed
  pub known-node : (node : Node) → In node graph.nodes → is_known problem node.name ≡ true
  known-node node there = known-by node there node.origin refl (kept node there)

  -- ---- what an edge leads to

  -- the node that a name asks for is one of its possible children
  pub asked-possible : (name : Text) (asked : Node) → asked_node (world_of problem) graph name ≡ Some asked
      → In asked.name (possible_children problem (Some name))
  unfolding keeps keeps_provider asked_node provides recipe_of
  asked-possible name asked e =
      elim (is_virtual problem.recipes name) as (λ b. option_and_then (node_of graph) (cond b (provider_of graph name) (Some name))
      ≡ Some asked → In asked.name (cond b (possible_providers problem name) (name ∷ []))) [
        | false ↦ λ is. inl ((texts_decide asked.name name).0 (find-in _ graph.nodes asked is).1)
        | true ↦ λ is.
            let by = and_then (node_of graph) (provider_of graph name) asked is in
            let pair = mapped (find_key byte_cmp virtual_of graph.providers name) by.0 by.1 in
            let in_providers = find-in (λ (p : Text × Text). eq_by_cmp byte_cmp p.0 name) graph.providers pair.0 pair.1 in
            let right = list_all-each (keeps_provider problem graph) graph.providers pair.0
            (rule rules.Provider (slice_get-in structure_rules 7 rules.Provider refl)) in_providers.0 in
            let node = some-and (node_of graph pair.0.1) _ right in
            let same : node.0 ≡ asked = let both : Some node.0 ≡ Some asked = sym node.1 ∙ ap (node_of graph) pair.2 ∙ by.2 in cc in
            let gives = any-in (row_provides (world_of problem) node.0 pair.0.0 None)
            (rows (λ recipe. recipe.provides) (recipe_at problem node.0.name)) node.2 in
            let of = row-of (λ recipe. recipe.provides) (recipe_at problem node.0.name) gives.0 gives.1 in
            let in_recipes = find-in _ problem.recipes of.0 of.1 in
            let named : bytes_eq gives.0.name name ≡ true =
            subst (λ v. bytes_eq gives.0.name v ≡ true) ((texts_decide pair.0.0 name).0 in_providers.1)
            (and_parts _ _ (and_parts _ _ gives.2).0).0 in
            let member = In-map (λ (recipe : Recipe). recipe.name) _ of.0
            (to_filter (λ recipe. list_any (λ row. bytes_eq row.name name) recipe.provides) problem.recipes of.0 in_recipes.0
            (in-any (λ row. bytes_eq row.name name) of.0.provides gives.0 of.2 named)) in
            subst (λ n. In n (possible_providers problem name)) ((texts_decide of.0.name node.0.name).0 in_recipes.1
            ∙ ap (λ (n : Node). n.name) same) member
      ] e
    where
      mapped : (o : Option (Text × Text)) (p : Text) → option_map (λ q. q.1) o ≡ Some p → (q : Text × Text) × (o ≡ Some q) × (q.1 ≡ p)
      mapped None p is = absurd (let wrong : None ≡ Some p = is in cc)
      mapped (Some q) p is = (q, refl, let same : q.1 ≡ p = cc in same)

  -- the provider of a virtual is one of the packages that may provide it
  pub provided-possible : (name p : Text) → provider_of graph name ≡ Some p → In p (possible_providers problem name)
  unfolding keeps keeps_provider provides recipe_of
  provided-possible name p is =
      let pair = mapped (find_key byte_cmp virtual_of graph.providers name) is in
      let in_providers = find-in (λ (q : Text × Text). eq_by_cmp byte_cmp q.0 name) graph.providers pair.0 pair.1 in
      let right = list_all-each (keeps_provider problem graph) graph.providers pair.0
      (rule rules.Provider (slice_get-in structure_rules 7 rules.Provider refl)) in_providers.0 in
      let node = some-and (node_of graph pair.0.1) _ right in
      let gives = any-in (row_provides (world_of problem) node.0 pair.0.0 None)
      (rows (λ recipe. recipe.provides) (recipe_at problem node.0.name)) node.2 in
      let of = row-of (λ recipe. recipe.provides) (recipe_at problem node.0.name) gives.0 gives.1 in
      let in_recipes = find-in _ problem.recipes of.0 of.1 in
      let named : bytes_eq gives.0.name name ≡ true =
      subst (λ v. bytes_eq gives.0.name v ≡ true) ((texts_decide pair.0.0 name).0 in_providers.1)
      (and_parts _ _ (and_parts _ _ gives.2).0).0 in
      let member = In-map (λ (recipe : Recipe). recipe.name) _ of.0
      (to_filter (λ recipe. list_any (λ row. bytes_eq row.name name) recipe.provides) problem.recipes of.0 in_recipes.0
      (in-any (λ row. bytes_eq row.name name) of.0.provides gives.0 of.2 named)) in
      subst (λ n. In n (possible_providers problem name)) ((texts_decide of.0.name node.0.name).0 in_recipes.1
      ∙ (texts_decide node.0.name pair.0.1).0 (find-in _ graph.nodes node.0 node.1).1 ∙ pair.2) member
    where
      mapped : (o : Option (Text × Text)) → option_map (λ q. q.1) o ≡ Some p → (q : Text × Text) × (o ≡ Some q) × (q.1 ≡ p)
      mapped None is = absurd (let wrong : None ≡ Some p = is in cc)
      mapped (Some q) is = (q, refl, let same : q.1 ≡ p = cc in same)

  -- what some package may provide is a virtual
  pub virtual-there : (name p : Text) → In p (possible_providers problem name) → is_virtual problem.recipes name ≡ true
  unfolding is_virtual provides_name
  virtual-there name p there =
      let image = from_map (λ (recipe : Recipe). recipe.name) _ p there in
      let from = from_filter (λ (recipe : Recipe). list_any (λ row. bytes_eq row.name name) recipe.provides) problem.recipes
      image.0 image.1 in
      in-any (λ (recipe : Recipe). list_any (λ row. bytes_eq row.name name) recipe.provides) problem.recipes image.0 from.0 from.1

  -- some row asks for an edge that is asked for
  some_row : (asked : List DependRow) (kinds : Kinds) → has_kind kinds ≡ true → covers (asked_kinds asked) kinds ≡ true → (row : DependRow)
      × In row asked
  some_row asked kinds has all =
      let parts = and_parts _ _ all in
      let first = and_parts _ _ parts.0 in
      let one = λ (test : DependRow → Bool) (has_one : list_any test asked ≡ true). let r = any-in test asked has_one in
      let found : (row : DependRow) × In row asked = (r.0, r.1) in found in
      elim (or_cases (kinds.build || kinds.link) kinds.run has) as (λ _. (row : DependRow) × In row asked) [
        | inr run ↦ one (λ row. row.kinds.run) (implied kinds.run _ parts.1 run)
        | inl other ↦ elim (or_cases kinds.build kinds.link other) as (λ _. (row : DependRow) × In row asked) [
          | inl build ↦ one (λ row. row.kinds.build) (implied kinds.build _ first.0 build)
          | inr link ↦ one (λ row. row.kinds.link) (implied kinds.link _ first.1 link)
        ]
      ]

  -- the child of an edge is one of the names that its parent brings
  pub brings : (node : Node) (e : Edge) → In node graph.nodes → In e (edges_from graph node.name) → (o : Origin) → node.origin ≡ o
      → keeps_origin problem graph node o ≡ true → In e.child (next_names problem node.name)
  unfolding keeps keeps_extra_edge next_names same_attributes installed_node record_at
  brings node e there from Built is h =
      let extra = at_built (keeps_extra_edge problem graph) graph node
      (rule rules.ExtraEdge (slice_get-in structure_rules 5 rules.ExtraEdge refl)) there (built_origin node is) in
      let asked = and_parts _ _ (and_parts _ _ (list_all-each (is_asked problem graph node) (edges_from graph node.name) e extra from)).0 in
      let row = some_row (asking problem graph node e.child) e.kinds asked.0 asked.1 in
      let in_rows = from_filter _ (depends_at problem node.name) row.0 row.1 in
      let target = some-and (asked_by problem graph row.0) _ (and_parts _ _ in_rows.1).1 in
      let name = and_then (asked_node (world_of problem) graph) row.0.part.name target.0 target.1 in
      let possible = subst (λ n. In target.0.name (possible_children problem n)) (sym name.1) (asked-possible name.0 target.0 name.2) in
      In-left _ _ e.child (In-flat_map (λ r. possible_children problem r.part.name) (depends_at problem node.name) row.0 e.child in_rows.0
      (subst (λ n. In n (possible_children problem row.0.part.name)) (bytes_eq-same target.0.name e.child target.2) possible))
  brings node e there from (External place) is h =
      absurd (let wrong : false ≡ true = list_all-each (λ _. false) (edges_from graph node.name) e (and_parts _ _ h).1 from in cc)
  brings node e there from (Installed hash) is h =
      let found = some-and (record_at problem hash) _ h in
      let parts = and_parts _ _ found.2 in
      let same = (and_parts _ _
      (and_parts _ _ (and_parts _ _ (and_parts _ _ (and_parts _ _ (and_parts _ _ (and_parts _ _ parts.0).0).0).0).0).0).0).0 in
      let dependency = any-in _ (kept_dependencies found.0)
      (list_all-each (is_child problem found.0) (edges_from graph node.name) e parts.1 from) in
      let child = some-and (record_at problem dependency.0.hash) _ dependency.2 in
      let in_names = to_filter_map (λ d. option_map (λ c. c.name) (record_at problem d.hash)) (kept_dependencies found.0) dependency.0
      child.0.name dependency.1 (ap (option_map (λ (c : Record). c.name)) child.1) in
      let in_records = to_filter (λ entry. bytes_eq entry.name node.name) problem.database found.0
      (find-in _ problem.database found.0 found.1).0 (ap (λ n. bytes_eq n node.name) (sym (bytes_eq-same node.name found.0.name same))
      ∙ bytes_eq-itself node.name) in
      In-right (flat_map (λ r. possible_children problem r.part.name) (depends_at problem node.name)) _ e.child
      (In-flat_map (kept_names problem) (filter (λ entry. bytes_eq entry.name node.name) problem.database) found.0 e.child in_records
      (subst (λ n. In n (kept_names problem found.0)) (bytes_eq-same child.0.name e.child child.2) in_names))

  -- ---- paths

  -- an edge between the names, whose ends are nodes
  edge_of_arc : (from to : Text) → JoinedIn graph from to → (e : Edge) × In e graph.edges × (e.parent ≡ from) × (e.child ≡ to)
  edge_of_arc from to there =
      let found = image_of ends_of graph.edges (from, to) there in
      (found.0, contains-In graph.edges found.0 found.1, ap (λ (p : Text × Text). p.0) found.2, ap (λ (p : Text × Text). p.1) found.2)

  node_there : (name : Text) → HasNode graph name → (node : Node) × In node graph.nodes × (node.name ≡ name)
  node_there name there = let found = image_of name_of graph.nodes name there in (found.0, contains-In graph.nodes found.0 found.1, found.2)

  parent_there : (e : Edge) → In e graph.edges → (node : Node) × In node graph.nodes × (node.name ≡ e.parent)
  parent_there e there =
      node_there e.parent (All-contains (λ (d : Edge). HasNode graph d.parent) graph.edges e g.parents (In-contains graph.edges e there))

  child_there : (e : Edge) → In e graph.edges → (node : Node) × In node graph.nodes × (node.name ≡ e.child)
  child_there e there =
      node_there e.child (All-contains (λ (d : Edge). HasNode graph d.child) graph.edges e g.children (In-contains graph.edges e there))

  -- a name from which an edge goes is a node's
  known_start : (from to : Text) → JoinedIn graph from to → is_known problem from ≡ true
  known_start from to there =
      let edge = edge_of_arc from to there in
      let up = parent_there edge.0 edge.1 in
      ap (is_known problem) (sym (up.2 ∙ edge.2)) ∙ known-node up.0 up.1

  path_start : (over : List Text) (from to : Text) → JoinsEach (JoinedIn graph) from (over ++ to ∷ []) → is_known problem from ≡ true
  path_start [] from to steps = known_start from to steps.0
  path_start (next ∷ over) from to steps = known_start from next steps.0

  module _ (names : List Text) (c : is_closed problem names ≡ true) where
    from_known : (name : Text) → is_known problem name ≡ true → has_known problem names name ≡ true → is_one_text names name ≡ true
    from_known name known h = implied (is_known problem name) (is_one_text names name) h known

    edge_closed : (from to : Text) → JoinedIn graph from to → is_one_text names from ≡ true → is_one_text names to ≡ true
    unfolding is_closed
    edge_closed from to there start =
        let edge = edge_of_arc from to there in
        let up = parent_there edge.0 edge.1 in
        let down = child_there edge.0 edge.1 in
        let is_up : up.0.name ≡ from = up.2 ∙ edge.2 in
        let out = to_filter (λ d. bytes_eq d.parent up.0.name) graph.edges edge.0 edge.1 (ap (bytes_eq edge.0.parent) up.2
        ∙ bytes_eq-itself edge.0.parent) in
        let next = brings up.0 edge.0 up.1 out up.0.origin refl (kept up.0 up.1) in
        let all = list_all-each (λ name. list_all (has_known problem names) (next_names problem name)) names up.0.name (and_parts _ _ c).1
        (In-among names up.0.name (ap (is_one_text names) is_up ∙ start)) in
        let known : is_known problem edge.0.child ≡ true = ap (is_known problem) (sym down.2) ∙ known-node down.0 down.1 in
        ap (is_one_text names) (sym edge.3) ∙ from_known edge.0.child known
        (list_all-each (has_known problem names) (next_names problem up.0.name) edge.0.child all next)

    path_closed : (over : List Text) (from to : Text) → is_one_text names from ≡ true → JoinsEach (JoinedIn graph) from (over ++ to ∷ [])
        → is_one_text names to ≡ true
    path_closed [] from to start steps = edge_closed from to steps.0 start
    path_closed (next ∷ over) from to start steps = path_closed over next to (edge_closed from next steps.0 start) steps.1

    -- the name of each node is one of the closed names
    pub node-closed : (node : Node) → In node graph.nodes → is_one_text names node.name ≡ true
    unfolding keeps keeps_reachable is_closed
    node-closed node there =
        let needed = any-in _ problem.roots (list_all-each (keeps_reachable problem graph) graph.nodes node
        (rule rules.Unreachable (slice_get-in structure_rules 11 rules.Unreachable refl)) there) in
        let root = some-and needed.0.top.name _ needed.2 in
        let held : has_known problem names root.0 ≡ true =
        subst (λ (o : Option Text). if_written o (has_known problem names) ≡ true) root.1
        (list_all-each (λ spec. if_written spec.top.name (has_known problem names)) problem.roots needed.0
        (and_parts _ _ c).0 needed.1) in
        elim (or_cases (bytes_eq root.0 node.name) (reaches_in graph root.0 node.name) root.2) as
        (λ _. is_one_text names node.name ≡ true) [
          | inl same ↦ let e = bytes_eq-same root.0 node.name same in
              subst (λ n. is_one_text names n ≡ true) e (from_known root.0 (ap (is_known problem) e ∙ known-node node there) held)
          | inr led ↦
              let path = (reaches_decides bytes_eq bytes_decides (arcs_of graph) root.0 node.name).0 led in
              path_closed path.0 root.0 node.name (from_known root.0 (path_start path.0 root.0 node.name path.1) held) path.1
        ]
