-- The first broken rule, and where it is broken.
use Rattle.std.specs.Prelude.{Bool, true, false, ◌&&◌, ◌==◌, ℕ, ◌+◌, not, List, [], ◌∷◌, map, filter, flat_map, Option, Some, None, unwrap_or, if◌then◌else◌}
use Rattle.std.specs.List.{list_any}
use Rattle.std.specs.Str.{bytes_eq}
use Rattle.std.specs.Ordering.{ordering_then, nat_cmp, is_lt}
use Rattle.problem.specs.OfVariantValues.Texts.{byte_cmp}
use Rattle.problem.specs.OfSpecGrammar.Spec.{Spec}
use Rattle.problem.specs.OfGraphCore.Graphs.{Text, Content}
use Rattle.problem.specs.OfConditionRules.Words.{implies}
use Rattle.problem.specs.Nodes.{is_built}
use Rattle.problem.specs.OfGraphCore.Node.{Node}
use Rattle.problem.specs.OfRecipeData.RequireRow.{RequireRow}
use Rattle.problem.specs.Problems.{depends_at, conflicts_at, requirements_at, required_at, Problem}
use Rattle.graph_rules.specs.Built.{keeps_buildable, keeps_version, keeps_variant, keeps_compiler, keeps_machine, keeps_extra_edge}
use Rattle.graph_rules.specs.Directives.{keeps_root, keeps_edge, keeps_constraint, keeps_conflict, keeps_requirement}
use Rattle.graph_rules.specs.Kept.{keeps_kept}
use Rattle.graph_rules.specs.Whole.{keeps_provider, keeps_used, keeps_together, keeps_no_cycle, keeps_reachable}
use Rattle.graph_rules.specs.Valid.{all_rules}
use Rattle.graph_rules.specs.declared.rule.Rule.{Rule}
use Rattle.graph_rules.specs.declared.rule.Rule.TheVariants as rules
use Rattle.graph_rules.specs.declared.rule.Verdict.{Verdict}
use Rattle.graph_rules.specs.declared.rule.Verdict.TheVariants as verdicts
use Rattle.problem.specs.declared.demand.Demand.{Demand}
use Rattle.problem.specs.declared.demand.Demand.TheVariants as demand

-- a name, and the number of a directive or root there, or 0
abbrev pub Place : Type 0
Place = Text × ℕ

-- ---- what is demanded

-- the demands that are made
abbrev pub Asked : Type 0
Asked = Demand → Bool

abbrev pub all_asked : Asked
all_asked d = true

abbrev pub same_demand : Demand → Demand → Bool
same_demand (demand.Root place) (demand.Root other) = place == other
same_demand (demand.Root place) (demand.Directive name number) = false
same_demand (demand.Directive name number) (demand.Root place) = false
same_demand (demand.Directive name number) (demand.Directive other k) = bytes_eq name other && number == k
same_demand (demand.Root place) (demand.Setting name number) = false
same_demand (demand.Directive name number) (demand.Setting other k) = false
same_demand (demand.Setting name number) (demand.Root place) = false
same_demand (demand.Setting name number) (demand.Directive other k) = false
same_demand (demand.Setting name number) (demand.Setting other k) = bytes_eq name other && number == k

-- the demand is one of these
abbrev pub is_among : List Demand → Asked
is_among asked d = list_any (same_demand d) asked

-- the root of this place is kept, or not asked
abbrev pub keeps_asked_root : Asked → Problem → Content → ℕ → Spec → Bool
keeps_asked_root asked problem graph place spec = implies (asked (demand.Root place)) (keeps_root problem graph spec)

-- the directive passes its test at the node, or is not asked
abbrev pub keeps_asked_row : {R : Type 0} → Asked → (R → ℕ) → (Node → R → Bool) → Node → R → Bool
keeps_asked_row asked number test node row = implies (asked (demand.Directive node.name (number row))) (test node row)

-- the requirement of the settings passes its test at the node, or is not asked
abbrev pub keeps_asked_setting : Asked → (Node → RequireRow → Bool) → Node → RequireRow → Bool
keeps_asked_setting asked test node row = implies (asked (demand.Setting node.name row.number)) (test node row)

-- ---- where a rule is broken

abbrev pub broken_roots : (ℕ → Spec → Bool) → ℕ → List Spec → List Place
broken_roots test place [] = []
broken_roots test place (spec ∷ more) =
    let later = broken_roots test (place + 1) more in
    if test place spec then later else (unwrap_or spec.top.name [], place) ∷ later

abbrev pub broken_nodes : (Node → Bool) → Content → List Place
broken_nodes test graph = map (λ node. (node.name, 0)) (filter (λ node. not (test node)) graph.nodes)

abbrev pub broken_builds : (Node → Bool) → Content → List Place
broken_builds test graph = broken_nodes (λ node. implies (is_built node) (test node)) graph

abbrev pub broken_rows : {R : Type 0} → (Text → List R) → (R → ℕ) → (Node → R → Bool) → Content → List Place
broken_rows rows_at number test graph =
    flat_map (λ node. map (λ row. (node.name, number row))
    (filter (λ row. not (implies (is_built node) (test node row))) (rows_at node.name))) graph.nodes

abbrev pub broken_settings : (Text → List RequireRow) → (Node → RequireRow → Bool) → Content → List Place
broken_settings rows_at test graph =
    flat_map (λ node. map (λ row. (node.name, row.number)) (filter (λ row. not (test node row)) (rows_at node.name))) graph.nodes

abbrev pub broken_providers : ((Text × Text) → Bool) → Content → List Place
broken_providers test graph = map (λ p. (p.0, 0)) (filter (λ p. not (test p)) graph.providers)

-- all places where the rule is broken, of the roots and directives that are asked
unfoldable pub breaks_of : Asked → Rule → Problem → Content → List Place
breaks_of asked rules.Root problem graph = broken_roots (keeps_asked_root asked problem graph) 0 problem.roots
breaks_of asked rules.Buildable problem graph = broken_builds (keeps_buildable problem) graph
breaks_of asked rules.Version problem graph = broken_builds (keeps_version problem) graph
breaks_of asked rules.Variant problem graph = broken_builds (keeps_variant problem graph) graph
breaks_of asked rules.Compiler problem graph = broken_builds (keeps_compiler problem) graph
breaks_of asked rules.Machine problem graph = broken_builds (keeps_machine problem) graph
breaks_of asked rules.Edge problem graph =
    broken_rows (depends_at problem) (λ row. row.number) (keeps_asked_row asked (λ row. row.number) (keeps_edge problem graph)) graph
breaks_of asked rules.ExtraEdge problem graph = broken_builds (keeps_extra_edge problem graph) graph
breaks_of asked rules.Constraint problem graph =
    broken_rows (depends_at problem) (λ row. row.number) (keeps_asked_row asked (λ row. row.number) (keeps_constraint problem graph)) graph
breaks_of asked rules.Conflict problem graph =
    broken_rows (conflicts_at problem) (λ row. row.number) (keeps_asked_row asked (λ row. row.number) (keeps_conflict problem graph)) graph
breaks_of asked rules.Requirement problem graph =
    broken_rows (requirements_at problem) (λ row. row.number) (keeps_asked_row asked (λ row. row.number) (keeps_requirement problem graph))
    graph
breaks_of asked rules.Required problem graph =
    broken_settings (required_at problem) (keeps_asked_setting asked (keeps_requirement problem graph)) graph
breaks_of asked rules.Kept problem graph = broken_nodes (keeps_kept problem graph) graph
breaks_of asked rules.Provider problem graph = broken_providers (keeps_provider problem graph) graph
breaks_of asked rules.UnusedProvider problem graph = broken_providers (keeps_used graph) graph
breaks_of asked rules.Together problem graph = broken_providers (keeps_together problem graph) graph
breaks_of asked rules.Cycle problem graph = broken_nodes (keeps_no_cycle graph) graph
breaks_of asked rules.Unreachable problem graph = broken_nodes (keeps_reachable problem graph) graph

-- all places where the rule is broken
abbrev pub breaks : Rule → Problem → Content → List Place
breaks = breaks_of all_asked

-- ---- the first

abbrev pub is_before : Place → Place → Bool
is_before a b = is_lt (ordering_then (byte_cmp a.0 b.0) (nat_cmp a.1 b.1))

abbrev pub lesser : Place → Option Place → Place
lesser p None = p
lesser p (Some q) = if is_before q p then q else p

-- the least name, and there the least number
abbrev pub least : List Place → Option Place
least [] = None
least (p ∷ more) = Some (lesser p (least more))

-- the lesser of two that may not be there
abbrev pub lesser_of : Option Place → Option Place → Option Place
lesser_of None b = b
lesser_of (Some p) b = Some (lesser p b)

abbrev pub broken_or : Rule → Option Place → Verdict → Verdict
broken_or rule None later = later
broken_or rule (Some p) later = verdicts.Broken rule p.0 p.1

abbrev pub first_broken : Asked → List Rule → Problem → Content → Verdict
first_broken asked [] problem graph = verdicts.Valid
first_broken asked (rule ∷ more) problem graph =
    broken_or rule (least (breaks_of asked rule problem graph)) (first_broken asked more problem graph)

-- the first broken rule, and its least place, of the roots and directives that are asked; or that none is broken
unfoldable pub verdict_of : Asked → Problem → Content → Verdict
verdict_of asked problem graph = first_broken asked all_rules problem graph

-- the first broken rule, and its least place; or that none is broken
abbrev pub verdict : Problem → Content → Verdict
verdict = verdict_of all_asked

-- the same, where only these roots and directives are asked
abbrev pub verdict_for : List Demand → Problem → Content → Verdict
verdict_for asked = verdict_of (is_among asked)
