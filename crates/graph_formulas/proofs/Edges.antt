-- The rules of edges that none asks for hold where these are kept.
use Rattle.std.proofs.Common.{◌≡◌, refl, sym, ap, subst, ◌∙◌, Bool, true, false, not, ◌||◌, ◌&&◌, List, filter, Option, Some, None, inl, inr}
use Rattle.std.specs.Prelude.{if◌then◌else◌}
use Rattle.std.specs.List.{list_any, list_all}
use Rattle.std.specs.Option.{option_and_then}
use Rattle.std.specs.Str.{bytes_eq}
use Rattle.std.proofs.lemmas.Bool.{cases_Bool, and_parts}
use Rattle.virtuals.specs.Virtuals.{is_virtual}
use Rattle.clause_formulas.specs.Rules.{fact, keeps_rule}
use Rattle.graph_core.specs.Graphs.{Text, Content, node_of, provider_of, edge_of, no_kinds}
use Rattle.condition_rules.specs.Words.{is_one_text, implies, if_written, is_some_and}
use Rattle.problem.specs.Nodes.{covers}
use Rattle.graph_core.specs.declared.node.Node.{Node}
use Rattle.graph_core.specs.declared.node.Edge.{Edge}
use Rattle.graph_core.specs.declared.node.Kinds.{Kinds}
use Rattle.graph_rules.proofs.Lists.{bytes_eq-same, some-and}
use Rattle.condition_rules.specs.Holds.{asked_node, all_hold}
use Rattle.recipe_data.specs.declared.recipe.DependRow.{DependRow}
use Rattle.problem.specs.Problems.{Problem, world_of, depends_at}
use Rattle.graph_rules.specs.Built.{asks, asking, asked_kinds, names_virtual, is_asked_virtual}
use Rattle.literal_table.specs.Spells.{virtuals_in}
use Rattle.graph_formulas.specs.Facts.{is_in, provides_as}
use Rattle.graph_formulas.specs.Lists.{settled_test, one_keeps, some}
use Rattle.literal_table.proofs.Spelling.{named-so}
use Rattle.graph_formulas.proofs.Rules.{given-kept, each-kept, some-kept, named-kept}
use Rattle.graph_formulas.proofs.Kept.{by_node}
use Rattle.graph_formulas.specs.Terms.{is_true, met_rule}
use Rattle.graph_formulas.specs.Edges.{asked_child, asks_rule, may_ask, kind_rule, virtual_rule, extra_edge_rule}
use Rattle.graph_formulas.proofs.Directives.{LeadsToNodes, not-or, then-and}
use Rattle.graph_formulas.proofs.ListTests.{any-filter, any-same, any-and}

-- who is asked may be asked
module _ (problem : Problem) (packages : Text → List Text) (graph : Content)
    (listed : (virtual p : Text) → provider_of graph virtual ≡ Some p → is_one_text (packages virtual) p ≡ true) (child : Text) where
  node-named : (a : Text) → is_some_and (node_of graph a) (λ asked. bytes_eq asked.name child) ≡ true → bytes_eq a child ≡ true
  node-named a = by_node graph a (λ o. is_some_and o (λ asked. bytes_eq asked.name child) ≡ true → bytes_eq a child ≡ true)
      (λ asked there h. ap (λ m. bytes_eq m child) (sym (named-so graph a asked there)) ∙ h) (λ absent h. cc)

  one-asked : (a : Text) (b : Bool) → is_some_and (option_and_then (node_of graph) (if b then provider_of graph a else Some a))
      (λ asked. bytes_eq asked.name child) ≡ true
      → (if b then is_one_text (packages a) child else bytes_eq a child) ≡ true
  one-asked a false e = node-named a e
  one-asked a true e = provided (provider_of graph a) (listed a) e
    where
      provided : (o : Option Text) → ((p : Text) → o ≡ Some p → is_one_text (packages a) p ≡ true)
          → is_some_and (option_and_then (node_of graph) o) (λ asked. bytes_eq asked.name child) ≡ true
          → is_one_text (packages a) child ≡ true
      provided None has h = cc
      provided (Some p) has h = subst (λ n. is_one_text (packages a) n ≡ true) (bytes_eq-same p child (node-named p h)) (has p refl)

  some-asked : (o : Option Text) → is_some_and (option_and_then (asked_node (world_of problem) graph) o)
      (λ asked. bytes_eq asked.name child) ≡ true
      → is_some_and o (λ asked. if is_virtual problem.recipes asked then is_one_text (packages asked) child else bytes_eq asked child)
      ≡ true
  unfolding asked_node
  some-asked None e = e
  some-asked (Some a) e = one-asked a (is_virtual problem.recipes a) e

  asks-may : (node : Node) (row : DependRow) → asks problem graph node child row ≡ true → may_ask problem packages child row ≡ true
  asks-may node row e = some-asked row.part.name (and_parts _ _ e).1

module _ (problem : Problem) (packages : Text → List Text) (graph : Content)
    (listed : (virtual p : Text) → provider_of graph virtual ≡ Some p → is_one_text (packages virtual) p ≡ true)
    (name : Text) (node : Node) (here : node_of graph name ≡ Some node) where
  child-named : (child : Text) (c : Node) → node_of graph child ≡ Some c → (n : Text)
      → bytes_eq n child ≡ is_some_and (node_of graph n) (λ asked. bytes_eq asked.name child)
  child-named child c child_here n =
      by_node graph n (λ o. bytes_eq n child ≡ is_some_and o (λ asked. bytes_eq asked.name child))
      (λ asked there. ap (λ m. bytes_eq m child) (sym (named-so graph n asked there)))
      (λ absent. elim (cases_Bool (bytes_eq n child)) [
        | inl same ↦ absurd (let both : Some c ≡ None = sym child_here ∙ ap (node_of graph) (sym (bytes_eq-same n child same))
            ∙ absent in cc)
        | inr other ↦ other
      ])

  child-kept : (child : Text) (c : Node) → node_of graph child ≡ Some c → (a : Text)
      → keeps_rule (is_in graph) (asked_child (world_of problem) child a) ≡ is_some_and (asked_node (world_of problem) graph a)
      (λ asked. bytes_eq asked.name child)
  unfolding asked_node
  child-kept child c child_here a = either-way (is_virtual problem.recipes a)
    where
      provided : (o : Option Text) → is_some_and o (λ p. bytes_eq p child) ≡ is_some_and (option_and_then (node_of graph) o)
          (λ asked. bytes_eq asked.name child)
      provided None = refl
      provided (Some p) = child-named child c child_here p

      either-way : (b : Bool) → keeps_rule (is_in graph) (if b then fact (provides_as a child) else settled_test (bytes_eq a child))
          ≡ is_some_and (option_and_then (node_of graph) (if b then provider_of graph a else Some a)) (λ asked. bytes_eq asked.name child)
      either-way true = provided (provider_of graph a)
      either-way false = given-kept (is_in graph) (bytes_eq a child) ∙ child-named child c child_here a

  asks-kept : (child : Text) (c : Node) → node_of graph child ≡ Some c → (row : DependRow)
      → keeps_rule (is_true (world_of problem) graph) (asks_rule problem packages name child row) ≡ asks problem graph node child row
  asks-kept child c child_here row =
      ap (λ b. all_hold (world_of problem) row.when graph name && b) (
      named-kept (is_in graph) (asked_child (world_of problem) child)
      (λ a. is_some_and (asked_node (world_of problem) graph a) (λ asked. bytes_eq asked.name child))
      (child-kept child c child_here) row.part.name
      ∙ sym (then-and (asked_node (world_of problem) graph) (λ asked. bytes_eq asked.name child) row.part.name))
      ∙ ap (λ n. all_hold (world_of problem) row.when graph n
      && is_some_and (option_and_then (asked_node (world_of problem) graph) row.part.name) (λ asked. bytes_eq asked.name child))
      (sym (named-so graph name node here))

  -- where the edge is there, so is its child
  kind-kept : LeadsToNodes graph → (kinds : Kinds) (has : Kinds → Bool) (child : Text) → ((k : Kinds) → covers k kinds ≡ has k)
      → keeps_rule (is_true (world_of problem) graph) (kind_rule problem packages kinds has name child)
      ≡ if_written (edge_of graph name child) (λ e. implies (has e.kinds)
      (list_any (λ row. has row.kinds) (asking problem graph node child)))
  kind-kept leads kinds has child same = kind-kept-cases (edge_of graph name child) refl
    where
      ordered : (a h m : Bool) → (a ≡ true → m ≡ true) → (a && (h && m)) ≡ (h && a)
      ordered true h m may = ap (λ b. h && b) (may refl)
      ordered false true m may = refl
      ordered false false m may = refl

      asked : (c : Node) → node_of graph child ≡ Some c
          → keeps_rule (is_true (world_of problem) graph)
          (some (asks_rule problem packages name child)
          (filter (λ row. has row.kinds && may_ask problem packages child row) (depends_at problem name)))
          ≡ list_any (λ row. has row.kinds) (asking problem graph node child)
      asked c child_here =
          some-kept (is_true (world_of problem) graph) (asks_rule problem packages name child) (asks problem graph node child)
          (asks-kept child c child_here)
          (filter (λ row. has row.kinds && may_ask problem packages child row) (depends_at problem name))
          ∙ any-filter (asks problem graph node child) (λ row. has row.kinds && may_ask problem packages child row)
          (depends_at problem name)
          ∙ any-same (λ row. asks problem graph node child row && (has row.kinds && may_ask problem packages child row))
          (λ row. has row.kinds && asks problem graph node child row)
          (λ row. ordered (asks problem graph node child row) (has row.kinds) (may_ask problem packages child row)
          (asks-may problem packages graph listed child node row)) (depends_at problem name)
          ∙ ap (λ n. list_any (λ row. has row.kinds && asks problem graph node child row) (depends_at problem n))
          (sym (named-so graph name node here))
          ∙ sym (any-filter (λ row. has row.kinds) (asks problem graph node child) (depends_at problem node.name))

      child_there : (e : Edge) → edge_of graph name child ≡ Some e → (o : Option Node) → node_of graph child ≡ o → (c : Node)
          × (node_of graph child ≡ Some c)
      child_there e is (Some c) child_here = (c, child_here)
      child_there e is None absent = absurd (let both : Some e ≡ None = sym is ∙ leads name child absent in cc)

      kind-kept-cases : (o : Option Edge) → edge_of graph name child ≡ o
          → (not (is_some_and o (λ e. covers e.kinds kinds))
          || keeps_rule (is_true (world_of problem) graph)
          (some (asks_rule problem packages name child)
          (filter (λ row. has row.kinds && may_ask problem packages child row) (depends_at problem name))))
          ≡ if_written o (λ e. implies (has e.kinds) (list_any (λ row. has row.kinds) (asking problem graph node child)))
      kind-kept-cases None is = refl
      kind-kept-cases (Some e) is =
          let there = child_there e is (node_of graph child) refl in
          rw (same e.kinds, asked there.0 there.1) (not-or (has e.kinds)
          (list_any (λ row. has row.kinds) (asking problem graph node child)))

  abbrev holds_row : DependRow → Bool
  holds_row row = all_hold (world_of problem) row.when graph name

  -- a row on the virtual asks for the child where it holds and the child is the provider
  asks-virtual : (child : Text) (c : Node) → node_of graph child ≡ Some c → (virtual : Text) (row : DependRow)
      → names_virtual problem virtual row ≡ true
      → asks problem graph node child row ≡ (holds_row row && is_in graph (provides_as virtual child))
  asks-virtual child c child_here virtual row h =
      let parts = and_parts (is_virtual problem.recipes virtual) (is_some_and row.part.name (bytes_eq virtual)) h in
      let written = some-and row.part.name (bytes_eq virtual) parts.1 in
      let named : row.part.name ≡ Some virtual = written.1 ∙ ap Some (sym (bytes_eq-same virtual written.0 written.2)) in
      sym (asks-kept child c child_here row)
      ∙ ap (λ (o : Option Text). holds_row row && keeps_rule (is_in graph) (one_keeps o (asked_child (world_of problem) child))) named
      ∙ rw parts.0 refl

  asked-virtual : (child : Text) (c : Node) → node_of graph child ≡ Some c → (virtual : Text)
      → (is_in graph (provides_as virtual child) && keeps_rule (is_true (world_of problem) graph)
      (some (λ row. met_rule name row.when) (filter (names_virtual problem virtual) (depends_at problem name))))
      ≡ is_asked_virtual problem graph node child virtual
  asked-virtual child c child_here virtual =
      ap (λ b. is_in graph (provides_as virtual child) && b) (
      some-kept (is_true (world_of problem) graph) (λ row. met_rule name row.when) holds_row (λ row. refl)
      (filter (names_virtual problem virtual) (depends_at problem name))
      ∙ any-filter holds_row (names_virtual problem virtual) (depends_at problem name))
      ∙ sym (any-and (is_in graph (provides_as virtual child)) (λ row. holds_row row && names_virtual problem virtual row)
      (depends_at problem name))
      ∙ any-same (λ row. is_in graph (provides_as virtual child) && (holds_row row && names_virtual problem virtual row))
      (λ row. names_virtual problem virtual row && asks problem graph node child row) pointwise_same (depends_at problem name)
      ∙ ap (λ n. list_any (λ row. names_virtual problem virtual row && asks problem graph node child row) (depends_at problem n))
      (sym (named-so graph name node here))
      ∙ sym (any-filter (names_virtual problem virtual) (asks problem graph node child) (depends_at problem node.name))
    where
      turned : (p h : Bool) → (p && (h && true)) ≡ (h && p)
      turned true true = refl
      turned true false = refl
      turned false true = refl
      turned false false = refl

      never : (p h : Bool) → (p && (h && false)) ≡ false
      never true true = refl
      never true false = refl
      never false h = refl

      pointwise_same : (row : DependRow) → (is_in graph (provides_as virtual child) && (holds_row row && names_virtual problem virtual row))
          ≡ (names_virtual problem virtual row && asks problem graph node child row)
      pointwise_same row = elim (cases_Bool (names_virtual problem virtual row)) [
        | inl on ↦ rw (on, asks-virtual child c child_here virtual row on)
            (turned (is_in graph (provides_as virtual child)) (holds_row row))
        | inr off ↦ rw off (never (is_in graph (provides_as virtual child)) (holds_row row))
      ]

  -- where it names the virtual, some row asks for it
  virtual-kept : LeadsToNodes graph → (child virtual : Text)
      → keeps_rule (is_true (world_of problem) graph) (virtual_rule problem packages name child virtual)
      ≡ implies (is_one_text (virtuals_in (edge_of graph name child)) virtual) (is_asked_virtual problem graph node child virtual)
  virtual-kept leads child virtual = virtual-kept-cases (edge_of graph name child) refl (node_of graph child) refl
    where
      virtual-kept-cases : (o : Option Edge) → edge_of graph name child ≡ o → (n : Option Node) → node_of graph child ≡ n
          → (not (is_one_text (virtuals_in o) virtual) || (is_in graph (provides_as virtual child)
          && keeps_rule (is_true (world_of problem) graph)
          (some (λ row. met_rule name row.when) (filter (names_virtual problem virtual) (depends_at problem name)))))
          ≡ implies (is_one_text (virtuals_in o) virtual) (is_asked_virtual problem graph node child virtual)
      virtual-kept-cases None is n there = refl
      virtual-kept-cases (Some e) is None absent = absurd (let both : Some e ≡ None = sym is ∙ leads name child absent in cc)
      virtual-kept-cases (Some e) is (Some c) child_here = rw (asked-virtual child c child_here virtual)
          (not-or (is_one_text e.virtuals virtual) (is_asked_virtual problem graph node child virtual))

  -- an edge of the node has no kind and no virtual that none asks for
  pub extra_edge-kept : LeadsToNodes graph → (virtuals : List Text) (child : Text)
      → keeps_rule (is_true (world_of problem) graph) (extra_edge_rule problem packages virtuals name child)
      ≡ (if_written (edge_of graph name child) (λ e. covers (asked_kinds (asking problem graph node child)) e.kinds)
      && list_all (λ q. implies (is_one_text (virtuals_in (edge_of graph name child)) q) (is_asked_virtual problem graph node child q))
      virtuals)
  extra_edge-kept leads virtuals child = rw (
    kind-kept leads (record no_kinds { build = true }) (λ k. k.build) child (λ k. ands k.build),
    kind-kept leads (record no_kinds { link = true }) (λ k. k.link) child (λ k. and-true k.link),
    kind-kept leads (record no_kinds { run = true }) (λ k. k.run) child (λ k. refl),
    each-kept (is_true (world_of problem) graph) (virtual_rule problem packages name child)
        (λ q. implies (is_one_text (virtuals_in (edge_of graph name child)) q) (is_asked_virtual problem graph node child q))
        (virtual-kept leads child) virtuals,
  ) (ap (λ b. b && list_all (λ q. implies (is_one_text (virtuals_in (edge_of graph name child)) q)
      (is_asked_virtual problem graph node child q)) virtuals)
      (extra_edge-kept-cases (edge_of graph name child)))
    where
      and-true : (a : Bool) → (a && true) ≡ a
      and-true true = refl
      and-true false = refl

      ands : (a : Bool) → (a && true && true) ≡ a
      ands true = refl
      ands false = refl

      extra_edge-kept-cases : (o : Option Edge)
          → (if_written o (λ e. implies e.kinds.build (list_any (λ row. row.kinds.build) (asking problem graph node child)))
          && if_written o (λ e. implies e.kinds.link (list_any (λ row. row.kinds.link) (asking problem graph node child)))
          && if_written o (λ e. implies e.kinds.run (list_any (λ row. row.kinds.run) (asking problem graph node child))))
          ≡ if_written o (λ e. covers (asked_kinds (asking problem graph node child)) e.kinds)
      extra_edge-kept-cases None = refl
      extra_edge-kept-cases (Some e) = refl
