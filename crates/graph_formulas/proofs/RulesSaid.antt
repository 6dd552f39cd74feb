-- What the formulas of the rules of a graph's structure say of the graph that literals spell.
use Rattle.std.proofs.Common.{filter, ◌≡◌, refl, sym, ap, subst, ◌∙◌, Bool, true, false, not, ◌&&◌, ℕ, List, [], map, Option, Some, None, inl, inr}
use Rattle.std.specs.List.{list_all}
use Rattle.std.proofs.lemmas.Bool.{cases_Bool}
use Rattle.clause_formulas.specs.Statements.{Statement}
use Rattle.clause_formulas.specs.Rules.{Proposition, keeps_rule}
use Rattle.graph_core.specs.Graphs.{Text, Content, node_of, provider_of, edge_of, edges_from, ends_of}
use Rattle.graph_core.specs.declared.node.Node.{Node}
use Rattle.graph_core.specs.declared.node.Edge.{Edge}
use Rattle.condition_rules.specs.Words.{is_one_text, implies, if_written, is_some_and}
use Rattle.recipe_data.specs.OfSpecGrammar.Condition.{Condition}
use Rattle.problem.specs.Nodes.{covers, is_built}
use Rattle.problem.specs.Problems.{Problem, world_of, variants_at}
use Rattle.graph_rules.specs.Built.{keeps_buildable, keeps_version, keeps_compiler, keeps_machine, keeps_variant, keeps_extra_edge, is_asked, is_asked_virtual, asking, asked_kinds}
use Rattle.graph_rules.specs.Whole.{keeps_provider, keeps_no_cycle, keeps_reachable, keeps_together, keeps_used, uses}
use Rattle.graph_rules.specs.Kept.{keeps_kept}
use Rattle.graph_rules.specs.Valid.{keeps, each_built}
use Rattle.graph_rules.specs.declared.rule.Rule.TheVariants as rules
use Rattle.graph_rules.proofs.Lists.{In, In-among, list_all-each, list_all-from}
use Rattle.literal_table.specs.Tables.{Table, block_of, edge_lits_of, edge_virtuals, table_names, children_of}
use Rattle.literal_table.specs.Spells.{SpellsNode, SpellsAt, SpellsEdge, virtuals_in}
use Rattle.literal_table.specs.declared.block.Block.{Block}
use Rattle.literal_table.proofs.Spelling.{named-so}
use Rattle.graph_formulas.specs.Words.{names_for}
use Rattle.graph_formulas.proofs.Rules.{each-kept, some-kept}
use Rattle.graph_formulas.proofs.Kept.{by_node}
use Rattle.graph_formulas.specs.Terms.{Term, is_true, known_rule, where_built, where_there}
use Rattle.graph_formulas.specs.Built.{buildable_rule, version_rule, compiler_rule, machine_rule, provider_rule, no_cycle_rule, reachable_rule}
use Rattle.graph_formulas.specs.Edges.{extra_edge_rule, extra_edges_rule, use_rule, used_rule, of_provider}
use Rattle.graph_formulas.specs.Together.{together_rule}
use Rattle.graph_formulas.specs.Variants.{variant_rule, variants_rule, keeps_one_variant}
use Rattle.graph_formulas.specs.Kept.{origins_in, origins_of, kept_rule}
use Rattle.graph_formulas.specs.Laws.{SpellsProblem, HasVariants, rule_says, if_built, virtuals_of, virtuals_on, may_use, variants_in, variants_of}
use Rattle.graph_formulas.proofs.Names.{all-same, found-ends, each-node-said, each-provider-said, each-edge-said}
use Rattle.graph_formulas.proofs.Built.{buildable-kept, version-kept, compiler-kept, machine-kept, provider-kept, no_cycle-kept, reachable-kept}
use Rattle.graph_formulas.proofs.Edges.{extra_edge-kept}
use Rattle.graph_formulas.proofs.Together.{together-kept}
use Rattle.graph_formulas.proofs.VariantRule.{variant-kept}
use Rattle.graph_formulas.proofs.AllVariants.{spelled-variants, among-In}
use Rattle.graph_formulas.proofs.KeptNodes.{kept-kept}
use Rattle.graph_formulas.proofs.ListTests.{any-narrowed}
use Rattle.graph_formulas.proofs.Providers.{of-provider-kept, any-node}
use Rattle.graph_formulas.proofs.SpelledParts.{spelled-kind, edge-child, all-among, chosen-offered}
use Rattle.graph_formulas.proofs.DemandsSaid.{listed, leads, leaves, said, where-built, where-there}

module _ (problem : Problem) (v : ℕ → Bool) (path : Text → Text → Statement) (condition : Text → Condition → Statement) (table : Table)
    (graph : Content) (s : SpellsProblem problem v path condition table graph) where
  pub buildable-said : (name : Text) → rule_says v path condition table (where_built name (known_rule (buildable_rule problem name)))
      ≡ if_built graph name (keeps_buildable problem)
  buildable-said name = where-built problem v path condition table graph s name (known_rule (buildable_rule problem name)) _
      (buildable-kept problem graph name)

  pub version-said : (name : Text) → rule_says v path condition table (where_built name (known_rule (version_rule problem name)))
      ≡ if_built graph name (keeps_version problem)
  version-said name = where-built problem v path condition table graph s name (known_rule (version_rule problem name)) _
      (version-kept problem graph name)

  pub compiler-said : (name : Text) → rule_says v path condition table (where_built name (known_rule (compiler_rule problem name)))
      ≡ if_built graph name (keeps_compiler problem)
  compiler-said name = where-built problem v path condition table graph s name (known_rule (compiler_rule problem name)) _
      (compiler-kept problem graph name)

  pub machine-said : (name : Text) → rule_says v path condition table (where_built name (known_rule (machine_rule problem name)))
      ≡ if_built graph name (keeps_machine problem)
  machine-said name = where-built problem v path condition table graph s name (known_rule (machine_rule problem name)) _
      (machine-kept problem graph name)

  pub no_cycle-said : (name : Text) → rule_says v path condition table (where_there name (known_rule (no_cycle_rule problem name)))
      ≡ if_written (node_of graph name) (keeps_no_cycle graph)
  no_cycle-said name = where-there problem v path condition table graph s name (known_rule (no_cycle_rule problem name)) _
      (no_cycle-kept problem graph name)

  pub reachable-said : (name : Text) → rule_says v path condition table (where_there name (known_rule (reachable_rule problem name)))
      ≡ if_written (node_of graph name) (keeps_reachable problem graph)
  reachable-said name = where-there problem v path condition table graph s name (known_rule (reachable_rule problem name)) _
      (reachable-kept problem graph name)

  use-kept : (p : Text × Text) (name : Text)
      → is_one_text (virtuals_in (edge_of graph name p.1)) p.0 ≡ is_some_and (node_of graph name) (uses graph p)
  use-kept p name = by_node graph name (λ o. is_one_text (virtuals_in (edge_of graph name p.1)) p.0 ≡ is_some_and o (uses graph p))
      (λ node here. by_edge (edge_of graph name p.1)
      ∙ ap (λ n. is_some_and (edge_of graph n p.1) (λ e. is_one_text e.virtuals p.0)) (sym (named-so graph name node here)))
      (λ absent. ap (λ o. is_one_text (virtuals_in o) p.0) (leaves problem v path condition table graph s name p.1 absent))
    where
      by_edge : (o : Option Edge) → is_one_text (virtuals_in o) p.0 ≡ is_some_and o (λ e. is_one_text e.virtuals p.0)
      by_edge None = refl
      by_edge (Some e) = refl

  -- what an edge names it may name
  named-may : (parent child q : Text) → In q (virtuals_in (edge_of graph parent child)) → In q (virtuals_on table parent child)
  named-may parent child q there = chosen-offered v (edge_virtuals table parent child) q
      (subst (In q) (sym (s.whole.facts.virtuals parent child)) there)

  user-may : (p : Text × Text) (name : Text) → is_some_and (node_of graph name) (uses graph p) ≡ true → may_use table p name ≡ true
  user-may p name h = among-In (virtuals_on table name p.1) p.0 (named-may name p.1 p.0
      (In-among (virtuals_in (edge_of graph name p.1)) p.0 (use-kept p name ∙ h)))

  -- what is asked of all that may be named is asked of what is named
  asked-all : (test : Text → Bool) (few many : List Text) → ((q : Text) → In q few → In q many)
      → list_all (λ q. implies (is_one_text few q) (test q)) many ≡ list_all test few
  asked-all test few many within = iff _ _
      (λ all. list_all-from test few (λ q there. met_here (is_one_text few q) (test q) (among-In few q there)
      (list_all-each (λ q. implies (is_one_text few q) (test q)) many q all (within q there))))
      (λ all. list_all-from (λ q. implies (is_one_text few q) (test q)) many (λ q there. elim (cases_Bool (is_one_text few q)) [
        | inl on ↦ rw on (list_all-each test few q all (In-among few q on))
        | inr off ↦ rw off refl
      ]))
    where
      met_here : (a b : Bool) → a ≡ true → implies a b ≡ true → b ≡ true
      met_here true b on h = h
      met_here false b on h = absurd (let wrong : false ≡ true = on in cc)

      iff : (a b : Bool) → (a ≡ true → b ≡ true) → (b ≡ true → a ≡ true) → a ≡ b
      iff true b f g = sym (f refl)
      iff false true f g = g refl
      iff false false f g = refl

  asked-edge : (name child : Text) (node : Node) (o : Option Edge) → edge_of graph name child ≡ o
      → (if_written o (λ e. covers (asked_kinds (asking problem graph node child)) e.kinds)
      && list_all (λ q. implies (is_one_text (virtuals_in o) q) (is_asked_virtual problem graph node child q))
      (virtuals_on table name child))
      ≡ if_written o (is_asked problem graph node)
  asked-edge name child node None here =
      asked-all (is_asked_virtual problem graph node child) [] (virtuals_on table name child) (λ q none. absurd none)
  asked-edge name child node (Some e) here =
      let kind = spelled-kind v (edge_lits_of table name child) e
      (subst (SpellsEdge v (edge_lits_of table name child)) here (s.whole.facts.edges name child)) in
      let c : e.child ≡ child = edge-child graph name child e here in
      rw (
        kind,
        asked-all (is_asked_virtual problem graph node child) e.virtuals (virtuals_on table name child)
            (λ q there. named-may name child q (subst (λ o. In q (virtuals_in o)) (sym here) there)),
      )
      (ap (λ n. covers (asked_kinds (asking problem graph node n)) e.kinds && list_all (is_asked_virtual problem graph node n) e.virtuals)
      (sym c))

  -- ---- rules of all nodes, by names

  nodes-said : (test : Node → Bool) → list_all test graph.nodes ≡ list_all (λ name. if_written (node_of graph name) test)
      (table_names table)
  nodes-said = each-node-said v table graph s.whole.facts s.is_table s.is_graph

  providers-said : (test : Text × Text → Bool)
      → list_all test graph.providers ≡ list_all (λ w. if_written (provider_of graph w) (λ p. test (w, p))) (virtuals_of table)
  providers-said = each-provider-said v table graph s.whole.facts s.is_table s.is_graph

  edges-said : (parent : Text) (test : Edge → Bool)
      → list_all test (edges_from graph parent) ≡ list_all (λ child. if_written (edge_of graph parent child) test)
      (children_of table parent)
  edges-said = each-edge-said v table graph s.whole.facts s.is_table s.is_graph

  -- formulas at all names say the rule of all nodes to build
  each-built : (rule : Text → Proposition Term) (test : Node → Bool)
      → ((name : Text) → rule_says v path condition table (where_built name (rule name)) ≡ if_built graph name test)
      → list_all (λ name. rule_says v path condition table (where_built name (rule name))) (table_names table) ≡ each_built test graph
  each-built rule test same = all-same _ (λ name. if_built graph name test) same (table_names table)
      ∙ sym (nodes-said (λ node. implies (is_built node) (test node)))

  each-there : (rule : Text → Proposition Term) (test : Node → Bool)
      → ((name : Text) → rule_says v path condition table (where_there name (rule name)) ≡ if_written (node_of graph name) test)
      → list_all (λ name. rule_says v path condition table (where_there name (rule name))) (table_names table) ≡ list_all test graph.nodes
  each-there rule test same = all-same _ (λ name. if_written (node_of graph name) test) same (table_names table) ∙ sym (nodes-said test)

  -- the formulas of a rule at all names say whether the graph keeps the rule
  pub all-buildable : list_all (λ name. rule_says v path condition table (where_built name (known_rule (buildable_rule problem name))))
      (table_names table) ≡ keeps rules.Buildable problem graph
  unfolding keeps
  all-buildable = each-built (λ name. known_rule (buildable_rule problem name)) (keeps_buildable problem) buildable-said

  pub all-version : list_all (λ name. rule_says v path condition table (where_built name (known_rule (version_rule problem name))))
      (table_names table) ≡ keeps rules.Version problem graph
  unfolding keeps
  all-version = each-built (λ name. known_rule (version_rule problem name)) (keeps_version problem) version-said

  pub all-compiler : list_all (λ name. rule_says v path condition table (where_built name (known_rule (compiler_rule problem name))))
      (table_names table) ≡ keeps rules.Compiler problem graph
  unfolding keeps
  all-compiler = each-built (λ name. known_rule (compiler_rule problem name)) (keeps_compiler problem) compiler-said

  pub all-machine : list_all (λ name. rule_says v path condition table (where_built name (known_rule (machine_rule problem name))))
      (table_names table) ≡ keeps rules.Machine problem graph
  unfolding keeps
  all-machine = each-built (λ name. known_rule (machine_rule problem name)) (keeps_machine problem) machine-said

  pub all-no_cycle : list_all (λ name. rule_says v path condition table (where_there name (known_rule (no_cycle_rule problem name))))
      (table_names table) ≡ keeps rules.Cycle problem graph
  unfolding keeps
  all-no_cycle = each-there (λ name. known_rule (no_cycle_rule problem name)) (keeps_no_cycle graph) no_cycle-said

  pub all-reachable : list_all (λ name. rule_says v path condition table (where_there name (known_rule (reachable_rule problem name))))
      (table_names table) ≡ keeps rules.Unreachable problem graph
  unfolding keeps
  all-reachable = each-there (λ name. known_rule (reachable_rule problem name)) (keeps_reachable problem graph) reachable-said

  pub all-extra_edge : list_all (λ name. rule_says v path condition table
      (where_built name (extra_edges_rule problem (names_for table) (virtuals_on table name) (children_of table name) name)))
      (table_names table)
      ≡ keeps rules.ExtraEdge problem graph
  unfolding keeps keeps_extra_edge
  all-extra_edge = each-built (λ name. extra_edges_rule problem (names_for table) (virtuals_on table name) (children_of table name) name)
      (keeps_extra_edge problem graph)
      (λ name. where-built problem v path condition table graph s name
      (extra_edges_rule problem (names_for table) (virtuals_on table name) (children_of table name) name)
      (keeps_extra_edge problem graph) (λ node here.
      each-kept (is_true (world_of problem) graph)
      (λ child. extra_edge_rule problem (names_for table) (virtuals_on table name child) name child)
      (λ child. if_written (edge_of graph name child) (is_asked problem graph node))
      (λ child. extra_edge-kept problem (names_for table) graph (listed problem v path condition table graph s) name node here
      (leads problem v path condition table graph s) (virtuals_on table name child) child
      ∙ asked-edge name child node (edge_of graph name child) refl) (children_of table name)
      ∙ sym (edges-said name (is_asked problem graph node))
      ∙ ap (λ n. list_all (is_asked problem graph node) (edges_from graph n)) (sym (named-so graph name node here))))

  -- formulas of all virtuals say the rule of all providers
  each-by-virtual : (rule : Text × Text → Proposition Term) (test : Text × Text → Bool)
      → ((p : Text × Text) → keeps_rule (is_true (world_of problem) graph) (rule p) ≡ test p)
      → list_all (λ w. rule_says v path condition table (of_provider (names_for table) rule w)) (virtuals_of table)
      ≡ list_all test graph.providers
  each-by-virtual rule test same =
      all-same _ (λ w. if_written (provider_of graph w) (λ p. test (w, p)))
      (λ w. said problem v path condition table graph s (of_provider (names_for table) rule w)
      ∙ of-provider-kept problem (names_for table) graph (listed problem v path condition table graph s) rule test same w)
      (virtuals_of table)
      ∙ sym (providers-said test)

  pub all-provider : list_all (λ w. rule_says v path condition table
      (of_provider (names_for table) (λ p. known_rule (provider_rule problem p)) w)) (virtuals_of table)
      ≡ keeps rules.Provider problem graph
  unfolding keeps
  all-provider = each-by-virtual (λ p. known_rule (provider_rule problem p)) (keeps_provider problem graph) (provider-kept problem graph)

  pub all-used : list_all (λ w. rule_says v path condition table
      (of_provider (names_for table) (used_rule (may_use table) (table_names table)) w))
      (virtuals_of table) ≡ keeps rules.UnusedProvider problem graph
  unfolding keeps keeps_used
  all-used = each-by-virtual (used_rule (may_use table) (table_names table)) (keeps_used graph) (λ p.
      some-kept (is_true (world_of problem) graph) (use_rule p) (λ name. is_some_and (node_of graph name) (uses graph p)) (use-kept p)
      (filter (may_use table p) (table_names table))
      ∙ any-narrowed (λ name. is_some_and (node_of graph name) (uses graph p)) (may_use table p) (user-may p) (table_names table)
      ∙ sym (any-node graph (uses graph p) (table_names table) (nodes-said (λ node. not (uses graph p node)))))

  pub all-together : list_all (λ w. rule_says v path condition table
      (of_provider (names_for table) (together_rule problem (names_for table)) w))
      (virtuals_of table) ≡ keeps rules.Together problem graph
  unfolding keeps
  all-together = each-by-virtual (together_rule problem (names_for table)) (keeps_together problem graph)
      (together-kept problem (names_for table) graph (listed problem v path condition table graph s))

  pub all-variant : HasVariants problem table
      → list_all (λ name. rule_says v path condition table (where_built name (variants_rule problem (variants_of table name) name)))
      (table_names table) ≡ keeps rules.Variant problem graph
  unfolding keeps
  all-variant has = each-built (λ name. variants_rule problem (variants_of table name) name) (keeps_variant problem graph)
      (λ name. where-built problem v path condition table graph s name (variants_rule problem (variants_of table name) name)
      (keeps_variant problem graph) (λ node here.
      each-kept (is_true (world_of problem) graph) (variant_rule problem name) (keeps_one_variant problem graph node)
      (λ x. variant-kept problem graph name node here x) (variants_of table name)
      ∙ sym (at-block name node here (block_of table name) refl (s.whole.facts.nodes name))))
    where
      at-block : (name : Text) (node : Node) → node_of graph name ≡ Some node → (c : Option Block) → block_of table name ≡ c
          → SpellsAt v c (node_of graph name)
          → keeps_variant problem graph node ≡ list_all (keeps_one_variant problem graph node) (variants_of table name)
      at-block name node here None is spells = absurd (let wrong : Some node ≡ None = sym here ∙ spells in cc)
      at-block name node here (Some b) is spells =
          spelled-variants problem graph v b node (variants_of table name) (subst (SpellsNode v b) here spells)
          (subst (λ o. list_all (is_one_text (variants_in o)) (map (λ u. u.0) b.variants) ≡ true) (sym is)
          (all-among (map (λ u. u.0) b.variants)))
          (subst (λ n. list_all (is_one_text (variants_of table name)) (map (λ row. row.name) (variants_at problem n)) ≡ true)
          (sym (named-so graph name node here)) (has name b is))

  pub all-kept : list_all (λ name. rule_says v path condition table
      (where_there name (known_rule (kept_rule problem (children_of table name) (origins_of table name) name)))) (table_names table)
      ≡ keeps rules.Kept problem graph
  unfolding keeps
  all-kept = each-there (λ name. known_rule (kept_rule problem (children_of table name) (origins_of table name) name))
      (keeps_kept problem graph)
      (λ name. where-there problem v path condition table graph s name
      (known_rule (kept_rule problem (children_of table name) (origins_of table name) name)) (keeps_kept problem graph) (λ node here.
      kept-kept problem graph name node here (children_of table name) (edges-said name)
      (λ child e at. ap (λ p. p.1) (found-ends ends_of graph.edges name child e at).1)
      (origins_of table name) (at-block name node here (block_of table name) refl (s.whole.facts.nodes name))))
    where
      at-block : (name : Text) (node : Node) → node_of graph name ≡ Some node → (c : Option Block) → block_of table name ≡ c
          → SpellsAt v c (node_of graph name)
          → In node.origin (origins_of table name)
      at-block name node here None is spells = absurd (let wrong : Some node ≡ None = sym here ∙ spells in cc)
      at-block name node here (Some b) is spells =
          let spelled : SpellsNode v b (Some node) = subst (SpellsNode v b) here spells in
          subst (λ o. In node.origin (origins_in o)) (sym is)
          (chosen-offered v b.origins node.origin (subst (In node.origin) (sym spelled.origin) (inl refl)))
