-- The rule of each demand holds where it is kept, and rules of all nodes by names.
use Rattle.std.proofs.Common.{◌≡◌, refl, sym, ap, ◌∙◌, Bool, true, false, ◌&&◌, ℕ, List, [], ◌∷◌, filter, Some, None, inl, inr}
use Rattle.std.specs.Prelude.{◌==◌, slice_get}
use Rattle.std.specs.List.{list_all}
use Rattle.std.proofs.lemmas.Bool.{cases_Bool}
use Rattle.clause_formulas.specs.Rules.{Proposition, keeps_rule}
use Rattle.graph_core.specs.Graphs.{Text}
use Rattle.condition_rules.specs.Words.{is_one_text, implies, if_written}
use Rattle.graph_core.specs.Graphs.{Content, node_of, provider_of}
use Rattle.graph_core.specs.declared.node.Node.{Node}
use Rattle.problem.specs.Problems.{Problem, world_of, depends_at, conflicts_at, requirements_at, required_at}
use Rattle.graph_rules.specs.Directives.{keeps_root, keeps_edge, keeps_constraint, keeps_conflict, keeps_requirement}
use Rattle.graph_rules.specs.Valid.{keeps_directive, keeps_demand}
use Rattle.problem.specs.declared.demand.Demand.{Demand}
use Rattle.problem.specs.declared.demand.Demand.TheVariants as demand
use Rattle.graph_formulas.specs.Lists.{◌and◌, each_keeps}
use Rattle.literal_table.proofs.Spelling.{named-so}
use Rattle.graph_formulas.proofs.Rules.{written-kept, each-kept}
use Rattle.graph_formulas.specs.Terms.{Term, is_true, known_rule}
use Rattle.graph_formulas.specs.Directives.{root_rule, edge_rule, constraint_rule, conflict_rule, requirement_rule}
use Rattle.graph_formulas.specs.Demands.{directive_rule, required_rule, demand_rule}
use Rattle.graph_formulas.proofs.Directives.{LeadsToNodes, root-kept, edge-kept, constraint-kept, conflict-kept, requirement-kept, built-kept, there-kept}

-- a test of what is left of a list
pub all-filter : {T : Type 0} (test f : T → Bool) (xs : List T) → list_all test (filter f xs) ≡ list_all (λ x. implies (f x) (test x)) xs
all-filter test f [] = refl
all-filter test f (x ∷ xs) = elim (cases_Bool (f x)) [
  | inl t ↦ rw (t, all-filter test f xs) refl
  | inr n ↦ rw (n, all-filter test f xs) refl
]

module _ (problem : Problem) (packages : Text → List Text) (graph : Content)
    (listed : (virtual p : Text) → provider_of graph virtual ≡ Some p → is_one_text (packages virtual) p ≡ true) where
  abbrev pub holds_here : Proposition Term → Bool
  holds_here rule = keeps_rule (is_true (world_of problem) graph) rule

  -- the rows with a number
  numbered : {R : Type 0} (number : ℕ) (number_of : R → ℕ) (rule : R → Proposition Term) (test : R → Bool)
      → ((row : R) → holds_here (rule row) ≡ test row) → (rows : List R)
      → holds_here (each_keeps rule (filter (λ row. number_of row == number) rows))
      ≡ list_all (λ row. implies (number_of row == number) (test row)) rows
  numbered number number_of rule test same rows =
      each-kept (is_true (world_of problem) graph) rule test same (filter (λ row. number_of row == number) rows)
      ∙ all-filter test (λ row. number_of row == number) rows

  directive-kept : LeadsToNodes graph → (number : ℕ) (node : Node)
      → holds_here (directive_rule problem packages number node.name) ≡ keeps_directive problem graph number node
  directive-kept leads number node = rw (
    numbered number (λ row. row.number) (λ row. edge_rule problem packages node.name row and constraint_rule problem packages node.name row)
        (λ row. keeps_edge problem graph node row && keeps_constraint problem graph node row)
        (λ row. rw (edge-kept problem packages graph listed leads node row, constraint-kept problem packages graph listed node row) refl)
        (depends_at problem node.name),
    numbered number (λ row. row.number) (conflict_rule problem packages node.name) (keeps_conflict problem graph node)
        (conflict-kept problem packages graph listed node) (conflicts_at problem node.name),
    numbered number (λ row. row.number) (requirement_rule problem packages node.name) (keeps_requirement problem graph node)
        (requirement-kept problem packages graph listed node) (requirements_at problem node.name),
  ) refl

  setting-kept : (place : ℕ) (node : Node) → holds_here (required_rule problem packages place node.name)
      ≡ if_written (slice_get (required_at problem node.name) place) (keeps_requirement problem graph node)
  setting-kept place node =
      written-kept (is_true (world_of problem) graph) (requirement_rule problem packages node.name) (keeps_requirement problem graph node)
      (requirement-kept problem packages graph listed node) (slice_get (required_at problem node.name) place)

  -- the rule of a demand holds where it is kept
  pub demand-kept : LeadsToNodes graph → (may_be : Text → Bool) → ((name : Text) → may_be name ≡ false → node_of graph name ≡ None)
      → (d : Demand)
      → holds_here (demand_rule problem packages may_be d) ≡ keeps_demand problem graph d
  unfolding keeps_demand
  demand-kept leads may_be nowhere_else (demand.Root place) =
      written-kept (is_true (world_of problem) graph) (λ spec. known_rule (root_rule problem packages spec)) (keeps_root problem graph)
      (root-kept problem packages graph listed) (slice_get problem.roots place)
  demand-kept leads may_be nowhere_else (demand.Directive name number) = elim (cases_Bool (may_be name)) [
    | inl there ↦ rw there (
        built-kept problem packages graph listed name (directive_rule problem packages number name) (keeps_directive problem graph number)
        (λ node here. ap (λ n. holds_here (directive_rule problem packages number n)) (sym (named-so graph name node here))
        ∙ directive-kept leads number node))
    | inr absent ↦ rw (absent, nowhere_else name absent) refl
  ]
  demand-kept leads may_be nowhere_else (demand.Setting name place) = elim (cases_Bool (may_be name)) [
    | inl there ↦ rw there (
        there-kept problem packages graph listed name (required_rule problem packages place name)
        (λ node. if_written (slice_get (required_at problem node.name) place) (keeps_requirement problem graph node))
        (λ node here. ap (λ n. holds_here (required_rule problem packages place n)) (sym (named-so graph name node here))
        ∙ setting-kept place node))
    | inr absent ↦ rw (absent, nowhere_else name absent) refl
  ]
