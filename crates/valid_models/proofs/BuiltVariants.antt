-- The rule of variants, where the table has all variants of the names that it offers to build.
use Rattle.std.proofs.Common.{◌≡◌, refl, sym, subst, ◌∙◌, Bool, true, false, not, ◌||◌, ℕ, [], ◌∷◌, map, Option, Some, None, inl, inr}
use Rattle.std.specs.List.{list_all, list_any}
use Rattle.std.proofs.lemmas.Bool.{cases_Bool, or_left, or_right}
use Rattle.clause_store.specs.Lits.{lit_true}
use Rattle.clause_formulas.specs.Statements.{Statement, eval}
use Rattle.clause_formulas.specs.Rules.{Proposition, keeps_rule}
use Rattle.clause_formulas.proofs.RuleLaws.{rule-said}
use Rattle.graph_core.specs.Graphs.{Text, Content, node_of}
use Rattle.graph_core.specs.declared.node.Node.{Node}
use Rattle.condition_rules.specs.Words.{is_one_text, implies, if_written, is_some_and}
use Rattle.recipe_data.specs.OfSpecGrammar.Condition.{Condition}
use Rattle.problem.specs.Nodes.{is_built, builds}
use Rattle.problem.specs.Problems.{Problem, world_of, variants_at}
use Rattle.graph_rules.specs.Built.{keeps_variant}
use Rattle.graph_rules.specs.Valid.{keeps}
use Rattle.graph_rules.specs.declared.rule.Rule.TheVariants as rules
use Rattle.literal_table.specs.Choices.{Choices, chosen, choice_values}
use Rattle.literal_table.specs.Tables.{Table, block_of, table_names}
use Rattle.literal_table.specs.Spells.{SpellsNode, SpellsAt}
use Rattle.literal_table.specs.declared.block.Block.{Block}
use Rattle.literal_table.proofs.Spelling.{named-so}
use Rattle.graph_formulas.specs.Facts.{word_said, is_in}
use Rattle.graph_formulas.proofs.WordsSaid.{word-said}
use Rattle.graph_formulas.proofs.Rules.{each-kept}
use Rattle.graph_formulas.proofs.Kept.{by_node}
use Rattle.graph_formulas.specs.Terms.{Term, known, met, is_true, term_said, where_built}
use Rattle.graph_formulas.specs.Variants.{variant_rule, variants_rule, keeps_one_variant}
use Rattle.graph_formulas.specs.Laws.{SpellsProblem, rule_says, variants_in, variants_of}
use Rattle.graph_formulas.proofs.Names.{all-same, each-node-said}
use Rattle.graph_formulas.proofs.VariantRule.{variant-kept}
use Rattle.graph_formulas.proofs.AllVariants.{spelled-variants}
use Rattle.graph_formulas.proofs.SpelledParts.{all-among}
use Rattle.valid_models.specs.Joined.{HasBuiltVariants}

-- what is chosen is offered
any-offered : {T : Type 0} (v : ℕ → Bool) (p : T → Bool) (cs : Choices T) → list_any p (chosen v cs) ≡ true
    → list_any p (choice_values cs) ≡ true
any-offered v p [] h = h
any-offered v p (c ∷ cs) h = elim (cases_Bool (lit_true v c.1)) [
  | inl t ↦ any-offered-cases (p c.0) (list_any p (chosen v cs)) (list_any p (choice_values cs)) (any-offered v p cs) (rw t at h)
  | inr f ↦ or_right (p c.0) (list_any p (choice_values cs)) (any-offered v p cs (rw f at h))
]
  where
    any-offered-cases : (a b c : Bool) → (b ≡ true → c ≡ true) → (a || b) ≡ true → (a || c) ≡ true
    any-offered-cases true b c f h = refl
    any-offered-cases false b c f h = f h

module _ (problem : Problem) (v : ℕ → Bool) (path : Text → Text → Statement) (condition : Text → Condition → Statement) (table : Table)
    (graph : Content)
    (s : SpellsProblem problem v path condition table graph) (has : HasBuiltVariants problem table) where
  term-said : (t : Term) → eval v (term_said path condition table t) ≡ is_true (world_of problem) graph t
  term-said (known rule) = rule-said v (word_said path table) (is_in graph) (word-said v path table graph s.whole) rule
  term-said (met name when) = s.conditions name when

  abbrev holds_here : Proposition Term → Bool
  holds_here rule = keeps_rule (is_true (world_of problem) graph) rule

  -- a built node's block offers to build it
  offers : (b : Block) (node : Node) → SpellsNode v b (Some node) → is_built node ≡ true
      → list_any builds (choice_values b.origins) ≡ true
  offers b node spells built = any-offered v builds b.origins
      (subst (λ xs. list_any builds xs ≡ true) (sym spells.origin) (or_left (builds node.origin) false built))

  at-block : (name : Text) (node : Node) → node_of graph name ≡ Some node → is_built node ≡ true → (c : Option Block)
      → block_of table name ≡ c
      → SpellsAt v c (node_of graph name) → keeps_variant problem graph node ≡ list_all (keeps_one_variant problem graph node)
      (variants_of table name)
  at-block name node here built None is spells = absurd (let wrong : Some node ≡ None = sym here ∙ spells in cc)
  at-block name node here built (Some b) is spells =
      let spelled : SpellsNode v b (Some node) = subst (SpellsNode v b) here spells in
      spelled-variants problem graph v b node (variants_of table name) spelled
      (subst (λ o. list_all (is_one_text (variants_in o)) (map (λ u. u.0) b.variants) ≡ true) (sym is)
      (all-among (map (λ u. u.0) b.variants)))
      (subst (λ n. list_all (is_one_text (variants_of table name)) (map (λ row. row.name) (variants_at problem n)) ≡ true)
      (sym (named-so graph name node here))
      (has name b is (offers b node spelled built)))

  at-node : (name : Text) (node : Node) → node_of graph name ≡ Some node → is_built node ≡ true
      → holds_here (variants_rule problem (variants_of table name) name) ≡ keeps_variant problem graph node
  at-node name node here built =
      each-kept (is_true (world_of problem) graph) (variant_rule problem name) (keeps_one_variant problem graph node)
      (λ x. variant-kept problem graph name node here x) (variants_of table name)
      ∙ sym (at-block name node here built (block_of table name) refl (s.whole.facts.nodes name))

  at-name : (name : Text) → rule_says v path condition table (where_built name (variants_rule problem (variants_of table name) name))
      ≡ if_written (node_of graph name) (λ node. implies (is_built node) (keeps_variant problem graph node))
  at-name name =
      rule-said v (term_said path condition table) (is_true (world_of problem) graph) term-said
      (where_built name (variants_rule problem (variants_of table name) name))
      ∙ by_node graph name (λ o. (not (is_some_and o is_built) || holds_here (variants_rule problem (variants_of table name) name))
      ≡ if_written o (λ node. implies (is_built node) (keeps_variant problem graph node)))
      (λ node here. at-name-cases node (is_built node) (at-node name node here))
      (λ absent. refl)
    where
      at-name-cases : (node : Node) (b : Bool) → (b ≡ true
          → holds_here (variants_rule problem (variants_of table name) name) ≡ keeps_variant problem graph node)
          → (not b || holds_here (variants_rule problem (variants_of table name) name)) ≡ implies b (keeps_variant problem graph node)
      at-name-cases node true h = h refl
      at-name-cases node false h = refl

  -- the formulas of variants say whether the graph keeps the rule
  pub all-built-variant : list_all (λ name. rule_says v path condition table
      (where_built name (variants_rule problem (variants_of table name) name))) (table_names table)
      ≡ keeps rules.Variant problem graph
  unfolding keeps
  all-built-variant =
      all-same _ (λ name. if_written (node_of graph name) (λ node. implies (is_built node) (keeps_variant problem graph node))) at-name
      (table_names table)
      ∙ sym (each-node-said v table graph s.whole.facts s.is_table s.is_graph
      (λ node. implies (is_built node) (keeps_variant problem graph node)))
