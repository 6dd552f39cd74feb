-- What is asked of some roots and directives: the verdict is that no rule is broken exactly where the graph is valid
use Rattle.std.proofs.Common.{◌≡◌, refl, sym, ap, subst, ◌∙◌, Bool, true, false, ◌&&◌, ◌==◌, ℕ, ◌+◌, List, [], ◌∷◌, ◌↔◌, Option, Some, None, arith, slice_get}
use Rattle.std.specs.List.{list_all}
use Rattle.std.proofs.lemmas.Bool.{and_parts, and_from, eq-eqb, eqb-true}
use Rattle.spec_grammar.specs.declared.part.Spec.{Spec}
use Rattle.graph_core.specs.Graphs.{Text, Content, node_of, IsGraph}
use Rattle.graph_core.specs.declared.node.Node.{Node}
use Rattle.condition_rules.specs.Words.{if_written, implies}
use Rattle.keyed_lists.proofs.TextLaws.{texts_decide}
use Rattle.problem.specs.Nodes.{is_built}
use Rattle.recipe_data.specs.declared.recipe.RequireRow.{RequireRow}
use Rattle.problem.specs.Problems.{depends_at, conflicts_at, requirements_at, package_entry_of, required_at, Problem}
use Rattle.problem.specs.declared.demand.Demand.{Demand}
use Rattle.problem.specs.declared.demand.Demand.TheVariants as demand
use Rattle.graph_rules.specs.Directives.{keeps_root, keeps_edge, keeps_constraint, keeps_conflict, keeps_requirement}
use Rattle.graph_rules.specs.Valid.{keeps, keeps_all, structure_rules, all_rules, valid_for, keeps_demand, keeps_directive}
use Rattle.graph_rules.specs.Verdict.{Asked, is_among, keeps_asked_root, breaks_of, first_broken, verdict_of, verdict_for}
use Rattle.graph_rules.specs.declared.rule.Rule.{Rule}
use Rattle.graph_rules.specs.declared.rule.Rule.TheVariants as rules
use Rattle.graph_rules.specs.declared.rule.Verdict.TheVariants as verdicts
use Rattle.graph_rules.proofs.Lists.{In, list_all-each, list_all-from, find-in, node-itself}
use Rattle.graph_rules.proofs.ValidLaws.{stands}
use Rattle.graph_rules.proofs.BuiltTests.{implied, implies-from}
use Rattle.graph_rules.proofs.NumberedRows.{slice_get-in, place-of, required-number}
use Rattle.graph_rules.proofs.VerdictLaws.{is_empty, is_valid, is_valid-from, step, keeps-breaks}
use Rattle.graph_judge.proofs.BrokenPlaces.{roots-kept, roots-each, rows-kept, rows-each, settings-kept, settings-each}
use Rattle.graph_judge.proofs.AmongDemands.{among-in, in-among}

-- for these demands.

-- ---- all rules

none_broken : (made : Asked) (asked : List Rule) (problem : Problem) (graph : Content)
    → is_valid (first_broken made asked problem graph) ≡ list_all (λ rule. is_empty (breaks_of made rule problem graph)) asked
none_broken made [] problem graph = refl
none_broken made (rule ∷ more) problem graph =
    step rule (breaks_of made rule problem graph) (first_broken made more problem graph)
    ∙ ap (λ b. is_empty (breaks_of made rule problem graph) && b) (none_broken made more problem graph)

is_structure : Rule → Bool
is_structure rules.Root = false
is_structure rules.Buildable = true
is_structure rules.Version = true
is_structure rules.Variant = true
is_structure rules.Compiler = true
is_structure rules.Machine = true
is_structure rules.Edge = false
is_structure rules.ExtraEdge = true
is_structure rules.Constraint = false
is_structure rules.Conflict = false
is_structure rules.Requirement = false
is_structure rules.Required = false
is_structure rules.Kept = true
is_structure rules.Provider = true
is_structure rules.UnusedProvider = true
is_structure rules.Together = true
is_structure rules.Cycle = true
is_structure rules.Unreachable = true

-- a rule of the structure is broken alike whatever is asked
structure-same : (made : Asked) (problem : Problem) (graph : Content) (rule : Rule) → is_structure rule ≡ true
    → keeps rule problem graph ≡ is_empty (breaks_of made rule problem graph)
unfolding breaks_of is_structure
structure-same made problem graph rules.Root h = absurd cc
structure-same made problem graph rules.Buildable h = keeps-breaks rules.Buildable problem graph
structure-same made problem graph rules.Version h = keeps-breaks rules.Version problem graph
structure-same made problem graph rules.Variant h = keeps-breaks rules.Variant problem graph
structure-same made problem graph rules.Compiler h = keeps-breaks rules.Compiler problem graph
structure-same made problem graph rules.Machine h = keeps-breaks rules.Machine problem graph
structure-same made problem graph rules.Edge h = absurd cc
structure-same made problem graph rules.ExtraEdge h = keeps-breaks rules.ExtraEdge problem graph
structure-same made problem graph rules.Constraint h = absurd cc
structure-same made problem graph rules.Conflict h = absurd cc
structure-same made problem graph rules.Requirement h = absurd cc
structure-same made problem graph rules.Required h = absurd cc
structure-same made problem graph rules.Kept h = keeps-breaks rules.Kept problem graph
structure-same made problem graph rules.Provider h = keeps-breaks rules.Provider problem graph
structure-same made problem graph rules.UnusedProvider h = keeps-breaks rules.UnusedProvider problem graph
structure-same made problem graph rules.Together h = keeps-breaks rules.Together problem graph
structure-same made problem graph rules.Cycle h = keeps-breaks rules.Cycle problem graph
structure-same made problem graph rules.Unreachable h = keeps-breaks rules.Unreachable problem graph

structure-is : (rule : Rule) → In rule structure_rules → is_structure rule ≡ true
unfolding is_structure
structure-is rule there = list_all-each is_structure structure_rules rule refl there

module _ (problem : Problem) (graph : Content) (g : IsGraph graph) (asked : List Demand) where
  -- ---- a graph that is valid for the demands breaks no rule

  module _ (v : valid_for asked problem graph ≡ true) where
    demand-made : (d : Demand) → is_among asked d ≡ true → keeps_demand problem graph d ≡ true
    unfolding valid_for
    demand-made d a = list_all-each (keeps_demand problem graph) asked d
        (and_parts (keeps_all structure_rules problem graph) (list_all (keeps_demand problem graph) asked) v).1 (among-in asked d a)

    structure-made : (rule : Rule) → In rule structure_rules → is_empty (breaks_of (is_among asked) rule problem graph) ≡ true
    unfolding valid_for
    structure-made rule there =
        sym (structure-same (is_among asked) problem graph rule (structure-is rule there))
        ∙ list_all-each (λ r. keeps r problem graph) structure_rules rule
        (and_parts (keeps_all structure_rules problem graph) (list_all (keeps_demand problem graph) asked) v).0 there

    directive-made : (node : Node) (number : ℕ) → In node graph.nodes → is_built node ≡ true
        → is_among asked (demand.Directive node.name number) ≡ true → keeps_directive problem graph number node ≡ true
    unfolding keeps_demand
    directive-made node number there built a =
        implied (is_built node) (keeps_directive problem graph number node)
        (subst (λ (o : Option Node). if_written o (λ n. implies (is_built n) (keeps_directive problem graph number n)) ≡ true)
        (node-itself graph node g there) (demand-made (demand.Directive node.name number) a)) built

    roots-made : is_empty (breaks_of (is_among asked) rules.Root problem graph) ≡ true
    unfolding breaks_of keeps_demand
    roots-made = roots-kept (keeps_asked_root (is_among asked) problem graph) 0 problem.roots (λ k spec e.
        let none : 0 + k ≡ k = omega arith in
        subst (λ n. keeps_asked_root (is_among asked) problem graph n spec ≡ true) (sym none)
        (implies-from (is_among asked (demand.Root k)) (keeps_root problem graph spec)
        (λ a. subst (λ (o : Option Spec). if_written o (keeps_root problem graph) ≡ true) e (demand-made (demand.Root k) a))))

    depend-made : (node : Node) → In node graph.nodes → is_built node ≡ true → (row : _) → In row (depends_at problem node.name)
        → is_among asked (demand.Directive node.name row.number) ≡ true
        → (keeps_edge problem graph node row && keeps_constraint problem graph node row) ≡ true
    depend-made node there built row is a =
        let kept = directive-made node row.number there built a in
        implied (row.number == row.number) _ (list_all-each _ (depends_at problem node.name) row (and_parts _ _ (and_parts _ _ kept).0).0
        is) (eq-eqb row.number row.number refl)

    edges-made : is_empty (breaks_of (is_among asked) rules.Edge problem graph) ≡ true
    unfolding breaks_of
    edges-made = rows-kept graph (is_among asked) (depends_at problem) (λ row. row.number) (keeps_edge problem graph)
        (λ node there built row is a. (and_parts _ _ (depend-made node there built row is a)).0)

    constraints-made : is_empty (breaks_of (is_among asked) rules.Constraint problem graph) ≡ true
    unfolding breaks_of
    constraints-made = rows-kept graph (is_among asked) (depends_at problem) (λ row. row.number) (keeps_constraint problem graph)
        (λ node there built row is a. (and_parts _ _ (depend-made node there built row is a)).1)

    conflicts-made : is_empty (breaks_of (is_among asked) rules.Conflict problem graph) ≡ true
    unfolding breaks_of
    conflicts-made = rows-kept graph (is_among asked) (conflicts_at problem) (λ row. row.number) (keeps_conflict problem graph)
        (λ node there built row is a.
        let kept = directive-made node row.number there built a in
        implied (row.number == row.number) _ (list_all-each _ (conflicts_at problem node.name) row (and_parts _ _ (and_parts _ _ kept).0).1
        is) (eq-eqb row.number row.number refl))

    requirements-made : is_empty (breaks_of (is_among asked) rules.Requirement problem graph) ≡ true
    unfolding breaks_of
    requirements-made = rows-kept graph (is_among asked) (requirements_at problem) (λ row. row.number) (keeps_requirement problem graph)
        (λ node there built row is a.
        let kept = directive-made node row.number there built a in
        implied (row.number == row.number) _ (list_all-each _ (requirements_at problem node.name) row (and_parts _ _ kept).1 is)
        (eq-eqb row.number row.number refl))

    required-made : is_empty (breaks_of (is_among asked) rules.Required problem graph) ≡ true
    unfolding breaks_of keeps_demand
    required-made = settings-kept graph (is_among asked) (required_at problem) (keeps_requirement problem graph)
        (λ node there row is a.
        let place = place-of (required_at problem node.name) 0 row is in
        let number : row.number ≡ place.0 = required-number (package_entry_of problem node.name) place.0 row place.1 in
        let got : slice_get (required_at problem node.name) row.number ≡ Some row =
        ap (slice_get (required_at problem node.name)) number ∙ place.1 in
        subst (λ (o : Option RequireRow). if_written o (keeps_requirement problem graph node) ≡ true) got
        (subst (λ (o : Option Node). if_written o (λ n. if_written (slice_get (required_at problem n.name) row.number)
        (keeps_requirement problem graph n)) ≡ true)
        (node-itself graph node g there) (demand-made (demand.Setting node.name row.number) a)))

    each-made : (rule : Rule) → is_empty (breaks_of (is_among asked) rule problem graph) ≡ true
    each-made rules.Root = roots-made
    each-made rules.Edge = edges-made
    each-made rules.Constraint = constraints-made
    each-made rules.Conflict = conflicts-made
    each-made rules.Requirement = requirements-made
    each-made rules.Required = required-made
    each-made rules.Buildable = structure-made rules.Buildable (slice_get-in structure_rules 0 rules.Buildable refl)
    each-made rules.Version = structure-made rules.Version (slice_get-in structure_rules 1 rules.Version refl)
    each-made rules.Variant = structure-made rules.Variant (slice_get-in structure_rules 2 rules.Variant refl)
    each-made rules.Compiler = structure-made rules.Compiler (slice_get-in structure_rules 3 rules.Compiler refl)
    each-made rules.Machine = structure-made rules.Machine (slice_get-in structure_rules 4 rules.Machine refl)
    each-made rules.ExtraEdge = structure-made rules.ExtraEdge (slice_get-in structure_rules 5 rules.ExtraEdge refl)
    each-made rules.Kept = structure-made rules.Kept (slice_get-in structure_rules 6 rules.Kept refl)
    each-made rules.Provider = structure-made rules.Provider (slice_get-in structure_rules 7 rules.Provider refl)
    each-made rules.UnusedProvider = structure-made rules.UnusedProvider (slice_get-in structure_rules 8 rules.UnusedProvider refl)
    each-made rules.Together = structure-made rules.Together (slice_get-in structure_rules 9 rules.Together refl)
    each-made rules.Cycle = structure-made rules.Cycle (slice_get-in structure_rules 10 rules.Cycle refl)
    each-made rules.Unreachable = structure-made rules.Unreachable (slice_get-in structure_rules 11 rules.Unreachable refl)

    said-valid : verdict_for asked problem graph ≡ verdicts.Valid
    unfolding verdict_of
    said-valid = is_valid-from _ (none_broken (is_among asked) all_rules problem graph
        ∙ list_all-from _ all_rules (λ rule _. each-made rule))

  -- ---- a graph that breaks no rule is valid for the demands

  module _ (e : verdict_for asked problem graph ≡ verdicts.Valid) where
    unbroken : (rule : Rule) → is_empty (breaks_of (is_among asked) rule problem graph) ≡ true
    unfolding verdict_of
    unbroken rule = list_all-each (λ r. is_empty (breaks_of (is_among asked) r problem graph)) all_rules rule
        (sym (none_broken (is_among asked) all_rules problem graph) ∙ ap is_valid e) (stands rule)

    root-asked : (place : ℕ) → In (demand.Root place) asked → keeps_demand problem graph (demand.Root place) ≡ true
    unfolding keeps_demand breaks_of
    root-asked place there =
        elim (slice_get problem.roots place) as (λ o. slice_get problem.roots place ≡ o → if_written o (keeps_root problem graph) ≡ true) [
          | None ↦ λ is. refl
          | Some spec ↦ λ is.
              let none : 0 + place ≡ place = omega arith in
              let kept = roots-each (keeps_asked_root (is_among asked) problem graph) 0 problem.roots place spec (unbroken rules.Root) is in
              implied (is_among asked (demand.Root place)) (keeps_root problem graph spec)
              (subst (λ n. keeps_asked_root (is_among asked) problem graph n spec ≡ true) none kept)
              (in-among asked (demand.Root place) there)
        ] refl

    directive-kept : (node : Node) (number : ℕ) → In node graph.nodes → is_built node ≡ true → In (demand.Directive node.name number) asked
        → keeps_directive problem graph number node ≡ true
    unfolding breaks_of
    directive-kept node number there built is_asked =
        let a = in-among asked (demand.Directive node.name number) is_asked in
        let made : (k : ℕ) → (k == number) ≡ true → is_among asked (demand.Directive node.name k) ≡ true =
        λ k same. subst (λ n. is_among asked (demand.Directive node.name n) ≡ true) (sym (eqb-true k number same)) a in
        let edges = rows-each graph (is_among asked) (depends_at problem) (λ row. row.number) (keeps_edge problem graph)
        (unbroken rules.Edge) node there built in
        let constraints = rows-each graph (is_among asked) (depends_at problem) (λ row. row.number) (keeps_constraint problem graph)
        (unbroken rules.Constraint) node there built in
        let conflicts = rows-each graph (is_among asked) (conflicts_at problem) (λ row. row.number) (keeps_conflict problem graph)
        (unbroken rules.Conflict) node there built in
        let requirements = rows-each graph (is_among asked) (requirements_at problem) (λ row. row.number) (keeps_requirement problem graph)
        (unbroken rules.Requirement) node there built in
        and_from _ _ (and_from _ _
        (list_all-from _ (depends_at problem node.name)
        (λ row is. implies-from (row.number == number) _
        (λ same. and_from _ _ (edges row is (made row.number same)) (constraints row is (made row.number same)))))
        (list_all-from _ (conflicts_at problem node.name)
        (λ row is. implies-from (row.number == number) _ (λ same. conflicts row is (made row.number same)))))
        (list_all-from _ (requirements_at problem node.name)
        (λ row is. implies-from (row.number == number) _ (λ same. requirements row is (made row.number same))))

    directive-asked : (name : Text) (number : ℕ) → In (demand.Directive name number) asked
        → keeps_demand problem graph (demand.Directive name number) ≡ true
    unfolding keeps_demand
    directive-asked name number there =
        elim (node_of graph name) as (λ o. node_of graph name ≡ o
        → if_written o (λ node. implies (is_built node) (keeps_directive problem graph number node)) ≡ true) [
          | None ↦ λ is. refl
          | Some node ↦ λ is.
              let found = find-in _ graph.nodes node is in
              let same : node.name ≡ name = (texts_decide node.name name).0 found.1 in
              implies-from (is_built node) _ (λ built. directive-kept node number found.0 built
              (subst (λ n. In (demand.Directive n number) asked) (sym same) there))
        ] refl

    setting-kept : (node : Node) (place : ℕ) → In node graph.nodes → In (demand.Setting node.name place) asked
        → if_written (slice_get (required_at problem node.name) place) (keeps_requirement problem graph node) ≡ true
    unfolding breaks_of
    setting-kept node place there is_asked =
        elim (slice_get (required_at problem node.name) place) as (λ o. slice_get (required_at problem node.name) place ≡ o
        → if_written o (keeps_requirement problem graph node) ≡ true) [
          | None ↦ λ at. refl
          | Some row ↦ λ at.
              let number : row.number ≡ place = required-number (package_entry_of problem node.name) place row at in
              settings-each graph (is_among asked) (required_at problem) (keeps_requirement problem graph)
              (unbroken rules.Required) node there
              row (slice_get-in (required_at problem node.name) place row at)
              (in-among asked (demand.Setting node.name row.number)
              (subst (λ n. In (demand.Setting node.name n) asked) (sym number) is_asked))
        ] refl

    setting-asked : (name : Text) (place : ℕ) → In (demand.Setting name place) asked
        → keeps_demand problem graph (demand.Setting name place) ≡ true
    unfolding keeps_demand
    setting-asked name place there =
        elim (node_of graph name) as (λ o. node_of graph name ≡ o
        → if_written o (λ node. if_written (slice_get (required_at problem node.name) place) (keeps_requirement problem graph node)) ≡ true) [
          | None ↦ λ is. refl
          | Some node ↦ λ is.
              let found = find-in _ graph.nodes node is in
              let same : node.name ≡ name = (texts_decide node.name name).0 found.1 in
              setting-kept node place found.0 (subst (λ n. In (demand.Setting n place) asked) (sym same) there)
        ] refl

    demand-kept : (d : Demand) → In d asked → keeps_demand problem graph d ≡ true
    demand-kept (demand.Root place) there = root-asked place there
    demand-kept (demand.Directive name number) there = directive-asked name number there
    demand-kept (demand.Setting name place) there = setting-asked name place there

    valid-said : valid_for asked problem graph ≡ true
    unfolding valid_for
    valid-said =
        and_from _ _ (list_all-from (λ rule. keeps rule problem graph) structure_rules
        (λ rule there. structure-same (is_among asked) problem graph rule (structure-is rule there) ∙ unbroken rule))
        (list_all-from (keeps_demand problem graph) asked demand-kept)

  -- a graph is valid for demands exactly where the verdict for them is Valid
  pub valid_for-verdict : (valid_for asked problem graph ≡ true) ↔ (verdict_for asked problem graph ≡ verdicts.Valid)
  valid_for-verdict = (said-valid, valid-said)
