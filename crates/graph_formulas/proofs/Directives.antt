-- The rules of roots and directives hold where these are kept.
use Rattle.std.proofs.Common.{◌≡◌, refl, sym, ap, ◌∙◌, Bool, true, false, not, ◌||◌, ◌&&◌, List, Option, Some, None, inl, inr}
use Rattle.std.specs.Prelude.{if◌then◌else◌}
use Rattle.std.specs.Option.{option_and_then}
use Rattle.std.proofs.lemmas.Bool.{cases_Bool}
use Rattle.spec_grammar.specs.declared.part.Spec.{Spec}
use Rattle.clause_formulas.specs.Rules.{Proposition, keeps_rule, fact}
use Rattle.graph_core.specs.Graphs.{Text}
use Rattle.condition_rules.specs.Words.{is_one_text, implies, if_written, is_some_and}
use Rattle.graph_core.specs.Graphs.{Content, node_of, provider_of, edge_of}
use Rattle.problem.specs.Nodes.{covers, is_built}
use Rattle.graph_core.specs.declared.node.Node.{Node}
use Rattle.condition_rules.specs.Holds.{asked_node, suits, holds, all_hold}
use Rattle.recipe_data.specs.declared.recipe.DependRow.{DependRow}
use Rattle.recipe_data.specs.declared.recipe.ConflictRow.{ConflictRow}
use Rattle.recipe_data.specs.declared.recipe.RequireRow.{RequireRow}
use Rattle.problem.specs.Problems.{Problem, world_of}
use Rattle.virtuals.specs.Virtuals.{is_virtual}
use Rattle.graph_core.specs.declared.node.Edge.{Edge}
use Rattle.literal_table.specs.Spells.{virtuals_in}
use Rattle.graph_rules.specs.Directives.{answers, keeps_root, keeps_edge, keeps_constraint, keeps_conflict, keeps_requirement, has_choice}
use Rattle.graph_formulas.specs.Facts.{GraphWord, has_edge, has_virtual, is_in}
use Rattle.graph_formulas.specs.Lists.{◌and◌}
use Rattle.graph_formulas.specs.Parts.{suits_rule, holds_rule}
use Rattle.literal_table.proofs.Spelling.{named-so}
use Rattle.graph_formulas.proofs.Rules.{some-kept, named-kept}
use Rattle.graph_formulas.proofs.Kept.{by_node, asked-kept, holds-kept, suits-kept}
use Rattle.graph_formulas.proofs.Few.{one-kept}
use Rattle.graph_formulas.specs.Terms.{Term, is_true, known_rule, where_built, where_there}
use Rattle.graph_formulas.specs.Directives.{root_rule, answer_rule, edge_to, edge_rule, suits_asked, constraint_rule, conflict_rule, choice_rule, requirement_rule}

-- an implication
pub not-or : (a b : Bool) → (not a || b) ≡ implies a b
not-or true b = refl
not-or false b = refl

-- edges lead to nodes alone
abbrev pub LeadsToNodes : Content → Type 0
LeadsToNodes graph = (parent child : Text) → node_of graph child ≡ None → edge_of graph parent child ≡ None

-- a test of what one gives after the other
pub then-and : {T U : Type 0} (f : T → Option U) (test : U → Bool) (o : Option T)
    → is_some_and (option_and_then f o) test ≡ is_some_and o (λ x. is_some_and (f x) test)
then-and f test None = refl
then-and f test (Some x) = refl

module _ (problem : Problem) (packages : Text → List Text) (graph : Content)
    (listed : (virtual p : Text) → provider_of graph virtual ≡ Some p → is_one_text (packages virtual) p ≡ true) where
  abbrev pub holds_true : Proposition Term → Bool
  holds_true rule = keeps_rule (is_true (world_of problem) graph) rule

  abbrev pub in_graph : Proposition GraphWord → Bool
  in_graph rule = keeps_rule (is_in graph) rule

  -- the rule of a root
  pub root-kept : (spec : Spec) → in_graph (root_rule problem packages spec) ≡ keeps_root problem graph spec
  unfolding keeps_root
  root-kept spec = named-kept (is_in graph) _ _ (λ name. holds-kept (world_of problem) graph packages listed name spec) spec.top.name

  -- of a conflict
  pub conflict-kept : (node : Node) (row : ConflictRow)
      → holds_true (conflict_rule problem packages node.name row) ≡ keeps_conflict problem graph node row
  unfolding keeps_conflict
  conflict-kept node row = rw (holds-kept (world_of problem) graph packages listed node.name row.spec) refl

  suits-asked : (row : DependRow) → in_graph (suits_asked problem packages row) ≡ is_some_and row.part.name
      (λ name. is_some_and (asked_node (world_of problem) graph name) (suits (world_of problem) row.part name))
  suits-asked row =
      named-kept (is_in graph) _ (λ name. is_some_and (asked_node (world_of problem) graph name) (suits (world_of problem) row.part name))
      (λ asked. asked-kept (world_of problem) graph packages listed asked (suits_rule (world_of problem) row.part asked)
      (suits (world_of problem) row.part asked) (λ n. suits-kept (world_of problem) graph n row.part asked)) row.part.name

  -- of what a dependency asks of its child
  pub constraint-kept : (node : Node) (row : DependRow)
      → holds_true (constraint_rule problem packages node.name row) ≡ keeps_constraint problem graph node row
  unfolding keeps_constraint
  constraint-kept node row = rw (suits-asked row) (not-or (all_hold (world_of problem) row.when graph node.name) _)

  -- an edge answers the row as one that asks for this name
  abbrev answers_as : DependRow → Text → Edge → Bool
  answers_as row asked e = covers e.kinds row.kinds && implies (is_virtual problem.recipes asked) (is_one_text e.virtuals asked)

  answer-at : (parent : Text) (row : DependRow) (asked child : Text)
      → in_graph (answer_rule problem packages parent row asked child) ≡ is_some_and (edge_of graph parent child) (answers_as row asked)
  answer-at parent row asked child = either (is_virtual problem.recipes asked)
    where
      both : (o : Option Edge) → (is_some_and o (λ e. covers e.kinds row.kinds) && is_one_text (virtuals_in o) asked)
          ≡ is_some_and o (λ e. covers e.kinds row.kinds && is_one_text e.virtuals asked)
      both None = refl
      both (Some e) = refl

      and-true : (a : Bool) → a ≡ (a && true)
      and-true true = refl
      and-true false = refl

      alone : (o : Option Edge) → is_some_and o (λ e. covers e.kinds row.kinds) ≡ is_some_and o (λ e. covers e.kinds row.kinds && true)
      alone None = refl
      alone (Some e) = and-true (covers e.kinds row.kinds)

      either : (b : Bool)
          → in_graph (if b then fact (has_edge parent child row.kinds) and fact (has_virtual parent child asked) else fact
          (has_edge parent child row.kinds))
          ≡ is_some_and (edge_of graph parent child) (λ e. covers e.kinds row.kinds && implies b (is_one_text e.virtuals asked))
      either true = both (edge_of graph parent child)
      either false = alone (edge_of graph parent child)

  edge-child : LeadsToNodes graph → (parent : Text) (row : DependRow) (asked child : Text)
      → in_graph (answer_rule problem packages parent row asked child)
      ≡ is_some_and (node_of graph child) (λ c. is_some_and (edge_of graph parent c.name) (answers_as row asked))
  edge-child leads parent row asked child = answer-at parent row asked child
      ∙ by_node graph child (λ o. is_some_and (edge_of graph parent child) (answers_as row asked)
      ≡ is_some_and o (λ c. is_some_and (edge_of graph parent c.name) (answers_as row asked)))
      (λ node here. ap (λ n. is_some_and (edge_of graph parent n) (answers_as row asked)) (sym (named-so graph child node here)))
      (λ absent. ap (λ o. is_some_and o (answers_as row asked)) (leads parent child absent))

  edge-to : LeadsToNodes graph → (node : Node) (row : DependRow) → in_graph (edge_to problem packages node.name row)
      ≡ is_some_and (option_and_then (asked_node (world_of problem) graph) row.part.name)
      (λ child. is_some_and (edge_of graph node.name child.name) (answers problem row))
  edge-to leads node row =
      named-kept (is_in graph) _ _ (λ asked. asked-kept (world_of problem) graph packages listed asked
      (answer_rule problem packages node.name row asked) _
      (edge-child leads node.name row asked)) row.part.name
      ∙ by_name row.part.name refl
    where
      by_name : (o : Option Text) → row.part.name ≡ o
          → is_some_and o (λ asked. is_some_and (asked_node (world_of problem) graph asked)
          (λ c. is_some_and (edge_of graph node.name c.name) (answers_as row asked)))
          ≡ is_some_and (option_and_then (asked_node (world_of problem) graph) o)
          (λ child. is_some_and (edge_of graph node.name child.name) (answers problem row))
      by_name None is = refl
      by_name (Some asked) is = ap (λ (named : Option Text). is_some_and (asked_node (world_of problem) graph asked)
          (λ c. is_some_and (edge_of graph node.name c.name) (λ e. covers e.kinds row.kinds
          && if_written named (λ name. implies (is_virtual problem.recipes name) (is_one_text e.virtuals name))))) (sym is)

  -- of its edge
  pub edge-kept : LeadsToNodes graph → (node : Node) (row : DependRow)
      → holds_true (edge_rule problem packages node.name row) ≡ keeps_edge problem graph node row
  unfolding keeps_edge
  edge-kept leads node row = rw (edge-to leads node row) (not-or (all_hold (world_of problem) row.when graph node.name) _)

  -- of a requirement
  pub requirement-kept : (node : Node) (row : RequireRow)
      → holds_true (requirement_rule problem packages node.name row) ≡ keeps_requirement problem graph node row
  unfolding keeps_requirement
  requirement-kept node row = rw (choice-kept) (not-or (all_hold (world_of problem) row.when graph node.name) _)
    where
      each-spec : (spec : Spec) → holds_true (known_rule (holds_rule (world_of problem) packages node.name spec)) ≡ holds (world_of problem)
          spec graph node.name
      each-spec spec = holds-kept (world_of problem) graph packages listed node.name spec

      choice-kept : holds_true (choice_rule problem packages node.name row) ≡ has_choice problem graph node row
      choice-kept = elim (cases_Bool row.one_of) [
        | inl one ↦ rw one (one-kept (is_true (world_of problem) graph) _ _ each-spec row.specs)
        | inr any ↦ rw any (some-kept (is_true (world_of problem) graph) _ _ each-spec row.specs)
      ]

  -- a rule of a node to build
  pub built-kept : (name : Text) (rule : Proposition Term) (test : Node → Bool)
      → ((node : Node) → node_of graph name ≡ Some node → holds_true rule ≡ test node)
      → holds_true (where_built name rule) ≡ if_written (node_of graph name) (λ node. implies (is_built node) (test node))
  built-kept name rule test same =
      by_node graph name (λ o. (not (is_some_and o is_built) || holds_true rule)
      ≡ if_written o (λ node. implies (is_built node) (test node)))
      (λ node here. not-or (is_built node) (holds_true rule) ∙ ap (implies (is_built node)) (same node here))
      (λ absent. refl)

  -- and of a node that is there
  pub there-kept : (name : Text) (rule : Proposition Term) (test : Node → Bool)
      → ((node : Node) → node_of graph name ≡ Some node → holds_true rule ≡ test node)
      → holds_true (where_there name rule) ≡ if_written (node_of graph name) test
  there-kept name rule test same =
      by_node graph name (λ o. (not (is_some_and o (λ node. true)) || holds_true rule) ≡ if_written o test)
      (λ node here. same node here) (λ absent. refl)
