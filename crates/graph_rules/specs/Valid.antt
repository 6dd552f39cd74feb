-- Valid graphs.
use Rattle.std.specs.Prelude.{Bool, ◌&&◌, ◌==◌, ℕ, List, [], ◌∷◌, slice_get}
use Rattle.std.specs.List.{list_all}
use Rattle.problem.specs.OfConditionRules.Words.{if_written, implies}
use Rattle.problem.specs.OfGraphCore.Graphs.{Content, node_of}
use Rattle.problem.specs.Nodes.{is_built}
use Rattle.problem.specs.OfGraphCore.Node.{Node}
use Rattle.problem.specs.Problems.{depends_at, conflicts_at, requirements_at, required_at, Problem}
use Rattle.graph_rules.specs.Built.{keeps_buildable, keeps_version, keeps_variant, keeps_compiler, keeps_machine, keeps_extra_edge}
use Rattle.graph_rules.specs.Directives.{keeps_root, keeps_edge, keeps_constraint, keeps_conflict, keeps_requirement}
use Rattle.graph_rules.specs.Kept.{keeps_kept}
use Rattle.graph_rules.specs.Whole.{keeps_provider, keeps_used, keeps_together, keeps_no_cycle, keeps_reachable}
use Rattle.graph_rules.specs.declared.rule.Rule.{Rule}
use Rattle.graph_rules.specs.declared.rule.Rule.TheVariants as rules
use Rattle.problem.specs.declared.demand.Demand.{Demand}
use Rattle.problem.specs.declared.demand.Demand.TheVariants as demand

-- ---- the table of rules

abbrev pub each_built : (Node → Bool) → Content → Bool
each_built test graph = list_all (λ node. implies (is_built node) (test node)) graph.nodes

-- the graph does not break the rule
unfoldable pub keeps : Rule → Problem → Content → Bool
keeps rules.Root problem graph = list_all (keeps_root problem graph) problem.roots
keeps rules.Buildable problem graph = each_built (keeps_buildable problem) graph
keeps rules.Version problem graph = each_built (keeps_version problem) graph
keeps rules.Variant problem graph = each_built (keeps_variant problem graph) graph
keeps rules.Compiler problem graph = each_built (keeps_compiler problem) graph
keeps rules.Machine problem graph = each_built (keeps_machine problem) graph
keeps rules.Edge problem graph = each_built (λ node. list_all (keeps_edge problem graph node) (depends_at problem node.name)) graph
keeps rules.ExtraEdge problem graph = each_built (keeps_extra_edge problem graph) graph
keeps rules.Constraint problem graph = each_built (λ node. list_all (keeps_constraint problem graph node) (depends_at problem node.name))
    graph
keeps rules.Conflict problem graph = each_built (λ node. list_all (keeps_conflict problem graph node) (conflicts_at problem node.name))
    graph
keeps rules.Requirement problem graph =
    each_built (λ node. list_all (keeps_requirement problem graph node) (requirements_at problem node.name)) graph
keeps rules.Required problem graph = list_all (λ node. list_all (keeps_requirement problem graph node) (required_at problem node.name))
    graph.nodes
keeps rules.Kept problem graph = list_all (keeps_kept problem graph) graph.nodes
keeps rules.Provider problem graph = list_all (keeps_provider problem graph) graph.providers
keeps rules.UnusedProvider problem graph = list_all (keeps_used graph) graph.providers
keeps rules.Together problem graph = list_all (keeps_together problem graph) graph.providers
keeps rules.Cycle problem graph = list_all (keeps_no_cycle graph) graph.nodes
keeps rules.Unreachable problem graph = list_all (keeps_reachable problem graph) graph.nodes

abbrev pub keeps_all : List Rule → Problem → Content → Bool
keeps_all asked problem graph = list_all (λ rule. keeps rule problem graph) asked

-- the rules, in their order
abbrev pub all_rules : List Rule
all_rules =
    rules.Root ∷ rules.Buildable ∷ rules.Version ∷ rules.Variant ∷ rules.Compiler ∷ rules.Machine ∷ rules.Edge ∷ rules.ExtraEdge
    ∷ rules.Constraint ∷ rules.Conflict ∷ rules.Requirement ∷ rules.Required ∷ rules.Kept ∷ rules.Provider ∷ rules.UnusedProvider
    ∷ rules.Together ∷ rules.Cycle ∷ rules.Unreachable ∷ []

-- no rule is broken
unfoldable pub valid : Problem → Content → Bool
valid problem graph = keeps_all all_rules problem graph

-- ---- fewer demands

-- the rules that are asked whatever is demanded: all but Root, Edge, Constraint, Conflict, Requirement and Required
abbrev pub structure_rules : List Rule
structure_rules =
    rules.Buildable ∷ rules.Version ∷ rules.Variant ∷ rules.Compiler ∷ rules.Machine ∷ rules.ExtraEdge
    ∷ rules.Kept ∷ rules.Provider ∷ rules.UnusedProvider ∷ rules.Together ∷ rules.Cycle ∷ rules.Unreachable ∷ []

-- no directive with this number is broken at the node
abbrev pub keeps_directive : Problem → Content → ℕ → Node → Bool
keeps_directive problem graph number node =
    list_all (λ row. implies (row.number == number) (keeps_edge problem graph node row && keeps_constraint problem graph node row))
    (depends_at problem node.name)
    && list_all (λ row. implies (row.number == number) (keeps_conflict problem graph node row)) (conflicts_at problem node.name)
    && list_all (λ row. implies (row.number == number) (keeps_requirement problem graph node row)) (requirements_at problem node.name)

-- no rule is broken at the demand: a root's spec holds, a directive is kept where its package is built, and a requirement
-- of the settings where its package is there
unfoldable pub keeps_demand : Problem → Content → Demand → Bool
keeps_demand problem graph (demand.Root place) = if_written (slice_get problem.roots place) (keeps_root problem graph)
keeps_demand problem graph (demand.Directive name number) =
    if_written (node_of graph name) (λ node. implies (is_built node) (keeps_directive problem graph number node))
keeps_demand problem graph (demand.Setting name place) =
    if_written (node_of graph name)
    (λ node. if_written (slice_get (required_at problem node.name) place) (keeps_requirement problem graph node))

-- valid, where only these roots, directives and requirements are asked
unfoldable pub valid_for : List Demand → Problem → Content → Bool
valid_for asked problem graph = keeps_all structure_rules problem graph && list_all (keeps_demand problem graph) asked
