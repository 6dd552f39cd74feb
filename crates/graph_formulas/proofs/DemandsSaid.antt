-- What the formulas of demands say of the graph that literals spell.
use Rattle.std.proofs.Common.{◌≡◌, refl, sym, ap, subst, ◌∙◌, Bool, true, false, not, ◌||◌, ℕ, Option, Some, None}
use Rattle.std.specs.Option.{is_some}
use Rattle.clause_formulas.specs.Statements.{Statement, eval}
use Rattle.clause_formulas.specs.Rules.{Proposition, keeps_rule}
use Rattle.clause_formulas.proofs.RuleLaws.{rule-said}
use Rattle.spec_grammar.specs.declared.part.Spec.{Spec}
use Rattle.graph_core.specs.Graphs.{Text, Content, node_of, provider_of, edge_of, ends_of, HasNode}
use Rattle.std.proofs.lemmas.List.Elements.{All-contains}
use Rattle.keyed_lists.proofs.LookupLaws.{find_sound}
use Rattle.graph_core.proofs.GraphLaws.{has_decides}
use Rattle.graph_core.proofs.PairLaws.{pair_total, pair_exact}
use Rattle.graph_core.specs.declared.node.Node.{Node}
use Rattle.graph_core.specs.declared.node.Edge.{Edge}
use Rattle.condition_rules.specs.Words.{is_one_text, if_written, is_some_and}
use Rattle.recipe_data.specs.OfSpecGrammar.Condition.{Condition}
use Rattle.recipe_data.specs.declared.recipe.DependRow.{DependRow}
use Rattle.recipe_data.specs.declared.recipe.ConflictRow.{ConflictRow}
use Rattle.recipe_data.specs.declared.recipe.RequireRow.{RequireRow}
use Rattle.problem.specs.Problems.{Problem, world_of}
use Rattle.problem.specs.declared.demand.Demand.{Demand}
use Rattle.graph_rules.specs.Directives.{keeps_root, keeps_edge, keeps_constraint, keeps_conflict, keeps_requirement}
use Rattle.graph_rules.specs.Valid.{keeps_demand}
use Rattle.literal_table.specs.Tables.{Table, block_of}
use Rattle.literal_table.specs.Spells.{SpellsAt}
use Rattle.literal_table.specs.declared.block.Block.{Block}
use Rattle.literal_table.proofs.Spelling.{named-so}
use Rattle.graph_formulas.specs.Facts.{word_said, is_in}
use Rattle.graph_formulas.specs.Words.{names_for}
use Rattle.graph_formulas.proofs.WordsSaid.{word-said}
use Rattle.graph_formulas.proofs.Kept.{by_node}
use Rattle.graph_formulas.proofs.Parts.{provider-listed}
use Rattle.graph_formulas.specs.Terms.{Term, known, met, is_true, term_said, known_rule, where_built, where_there}
use Rattle.graph_formulas.specs.Directives.{root_rule, edge_rule, constraint_rule, conflict_rule, requirement_rule}
use Rattle.graph_formulas.specs.Demands.{demand_rule}
use Rattle.graph_formulas.specs.Laws.{SpellsProblem, rule_says, if_built, has_name}
use Rattle.graph_formulas.proofs.Directives.{LeadsToNodes, root-kept, edge-kept, constraint-kept, conflict-kept, requirement-kept, built-kept}
use Rattle.graph_formulas.proofs.Demands.{demand-kept}

module _ (problem : Problem) (v : ℕ → Bool) (path : Text → Text → Statement) (condition : Text → Condition → Statement) (table : Table)
    (graph : Content) (s : SpellsProblem problem v path condition table graph) where
  -- who provides is among the names of its virtual
  pub listed : (virtual p : Text) → provider_of graph virtual ≡ Some p → is_one_text (names_for table virtual) p ≡ true
  listed = provider-listed v table graph s.whole.facts

  -- an edge leads to a node
  pub leads : LeadsToNodes graph
  leads parent child absent = leads-cases (edge_of graph parent child) refl
    where
      leads-cases : (o : Option Edge) → edge_of graph parent child ≡ o → edge_of graph parent child ≡ None
      leads-cases None is = is
      leads-cases (Some e) is =
          let found = find_sound pair_total pair_exact ends_of graph.edges (parent, child) e is in
          let there = subst (HasNode graph) (ap (λ p. p.1) found.1)
          (All-contains (λ (d : Edge). HasNode graph d.child) graph.edges e s.is_graph.children found.0) in
          absurd (let both : true ≡ false = sym ((has_decides graph child).1 there) ∙ ap is_some absent in cc)

  -- where a name has no node, no edge leaves it
  pub leaves : (parent child : Text) → node_of graph parent ≡ None → edge_of graph parent child ≡ None
  leaves parent child absent = leaves-cases (edge_of graph parent child) refl
    where
      leaves-cases : (o : Option Edge) → edge_of graph parent child ≡ o → edge_of graph parent child ≡ None
      leaves-cases None is = is
      leaves-cases (Some e) is =
          let found = find_sound pair_total pair_exact ends_of graph.edges (parent, child) e is in
          let there = subst (HasNode graph) (ap (λ p. p.0) found.1)
          (All-contains (λ (d : Edge). HasNode graph d.parent) graph.edges e s.is_graph.parents found.0) in
          absurd (let both : true ≡ false = sym ((has_decides graph parent).1 there) ∙ ap is_some absent in cc)

  -- a word of a rule says what it means of the graph
  term-said : (t : Term) → eval v (term_said path condition table t) ≡ is_true (world_of problem) graph t
  term-said (known rule) = rule-said v (word_said path table) (is_in graph) (word-said v path table graph s.whole) rule
  term-said (met name when) = s.conditions name when

  -- and so does a rule
  pub said : (rule : Proposition Term) → rule_says v path condition table rule ≡ keeps_rule (is_true (world_of problem) graph) rule
  said rule = rule-said v (term_said path condition table) (is_true (world_of problem) graph) term-said rule

  -- a rule that holds where its test does, asked where the node is built
  pub where-built : (name : Text) (rule : Proposition Term) (test : Node → Bool)
      → ((node : Node) → node_of graph name ≡ Some node → keeps_rule (is_true (world_of problem) graph) rule ≡ test node)
      → rule_says v path condition table (where_built name rule) ≡ if_built graph name test
  where-built name rule test same = said (where_built name rule) ∙ built-kept problem (names_for table) graph listed name rule test same

  -- a law said at the node's own name
  at-name : (name : Text) (rule : Text → Proposition Term) (test : Node → Bool)
      → ((node : Node) → keeps_rule (is_true (world_of problem) graph) (rule node.name) ≡ test node)
      → rule_says v path condition table (where_built name (rule name)) ≡ if_built graph name test
  at-name name rule test same =
      where-built name (rule name) test (λ node here. ap (λ n. keeps_rule (is_true (world_of problem) graph) (rule n))
      (sym (named-so graph name node here)) ∙ same node)

  -- the formula of a root's rule says whether the graph keeps it; so do those of the other rules
  pub root-said : (spec : Spec) → rule_says v path condition table (known_rule (root_rule problem (names_for table) spec))
      ≡ keeps_root problem graph spec
  root-said spec = said (known_rule (root_rule problem (names_for table) spec)) ∙ root-kept problem (names_for table) graph listed spec

  pub edge-said : (name : Text) (row : DependRow)
      → rule_says v path condition table (where_built name (edge_rule problem (names_for table) name row)) ≡ if_built graph name
      (λ node. keeps_edge problem graph node row)
  edge-said name row = at-name name (λ n. edge_rule problem (names_for table) n row) _
      (λ node. edge-kept problem (names_for table) graph listed leads node row)

  pub constraint-said : (name : Text) (row : DependRow)
      → rule_says v path condition table (where_built name (constraint_rule problem (names_for table) name row)) ≡ if_built graph name
      (λ node. keeps_constraint problem graph node row)
  constraint-said name row = at-name name (λ n. constraint_rule problem (names_for table) n row) _
      (λ node. constraint-kept problem (names_for table) graph listed node row)

  pub conflict-said : (name : Text) (row : ConflictRow)
      → rule_says v path condition table (where_built name (conflict_rule problem (names_for table) name row)) ≡ if_built graph name
      (λ node. keeps_conflict problem graph node row)
  conflict-said name row = at-name name (λ n. conflict_rule problem (names_for table) n row) _
      (λ node. conflict-kept problem (names_for table) graph listed node row)

  pub requirement-said : (name : Text) (row : RequireRow)
      → rule_says v path condition table (where_built name (requirement_rule problem (names_for table) name row)) ≡ if_built graph name
      (λ node. keeps_requirement problem graph node row)
  requirement-said name row = at-name name (λ n. requirement_rule problem (names_for table) n row) _
      (λ node. requirement-kept problem (names_for table) graph listed node row)

  -- where the node is there
  pub where-there : (name : Text) (rule : Proposition Term) (test : Node → Bool)
      → ((node : Node) → node_of graph name ≡ Some node → keeps_rule (is_true (world_of problem) graph) rule ≡ test node)
      → rule_says v path condition table (where_there name rule) ≡ if_written (node_of graph name) test
  where-there name rule test same =
      said (where_there name rule)
      ∙ by_node graph name (λ o. (not (is_some_and o (λ node. true)) || keeps_rule (is_true (world_of problem) graph) rule)
      ≡ if_written o test) (λ node here. same node here) (λ absent. refl)

  -- a name that the table does not have has no node
  unnamed : (name : Text) → has_name table name ≡ false → node_of graph name ≡ None
  unnamed name = unnamed-cases (block_of table name) (s.whole.facts.nodes name)
    where
      unnamed-cases : (o : Option Block) → SpellsAt v o (node_of graph name) → is_some o ≡ false → node_of graph name ≡ None
      unnamed-cases None spelled h = spelled
      unnamed-cases (Some b) spelled h = cc

  pub demand-said : (d : Demand) → rule_says v path condition table (demand_rule problem (names_for table) (has_name table) d)
      ≡ keeps_demand problem graph d
  demand-said d =
      said (demand_rule problem (names_for table) (has_name table) d)
      ∙ demand-kept problem (names_for table) graph listed leads (has_name table) unnamed d
