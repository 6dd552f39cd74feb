-- The rules of providers, and of the graph as a whole.
use Rattle.std.specs.Prelude.{Bool, ◌||◌, ◌==◌, not, None}
use Rattle.std.specs.List.{list_any, list_all}
use Rattle.std.specs.Str.{bytes_eq}
use Rattle.problem.specs.OfSpecGrammar.Spec.{Spec}
use Rattle.problem.specs.OfGraphCore.Graphs.{Text, Content, node_of, edge_of, provider_of}
use Rattle.problem.specs.OfConditionRules.Words.{is_one_text, is_some_and, if_written, implies}
use Rattle.problem.specs.OfGraphCore.Paths.{reaches_in}
use Rattle.problem.specs.OfGraphCore.Node.{Node}
use Rattle.problem.specs.OfRecipeData.ProvideRow.{ProvideRow}
use Rattle.problem.specs.OfConditionRules.Meets.{provides, row_provides}
use Rattle.problem.specs.Problems.{world_of, provides_at, Problem}

-- Provider: a virtual's provider is a node that provides it
unfoldable pub keeps_provider : Problem → Content → (Text × Text) → Bool
keeps_provider problem graph p = is_some_and (node_of graph p.1) (λ node. provides (world_of problem) node p.0 None)

-- the node has an edge to the provider that names the virtual
abbrev pub uses : Content → (Text × Text) → Node → Bool
uses graph p node = is_some_and (edge_of graph node.name p.1) (λ e. is_one_text e.virtuals p.0)

-- UnusedProvider: some node uses it, whether it is to be built or kept
unfoldable pub keeps_used : Content → (Text × Text) → Bool
keeps_used graph p = list_any (uses graph p) graph.nodes

-- ---- Together

-- the row's condition holds at the provider, and it provides the virtual
abbrev pub provides_by : Problem → Content → (Text × Text) → ProvideRow → Bool
provides_by problem graph p row = is_some_and (node_of graph p.1) (λ node. row_provides (world_of problem) node p.0 None row)

-- the virtual has no provider but this package
abbrev pub has_no_other : Content → Text → Text → Bool
has_no_other graph name virtual = if_written (provider_of graph virtual) (λ other. bytes_eq other name)

-- so it is of each name of the row's directive
abbrev pub provides_together : Problem → Content → Text → ProvideRow → Bool
provides_together problem graph name row =
    list_all (λ other. implies (other.number == row.number) (has_no_other graph name other.name)) (provides_at problem name)

-- where the virtual is provided by the row
abbrev pub keeps_row_together : Problem → Content → (Text × Text) → ProvideRow → Bool
keeps_row_together problem graph p row = implies (provides_by problem graph p row) (provides_together problem graph p.1 row)

-- Together: where the settings ask for it, a virtual's provider by a directive is the provider of each other name of the
-- directive that has one
unfoldable pub keeps_together : Problem → Content → (Text × Text) → Bool
keeps_together problem graph p =
    implies problem.settings.provided_together
    (list_all (λ row. implies (bytes_eq row.name p.0) (keeps_row_together problem graph p row)) (provides_at problem p.1))

-- ---- paths

-- Cycle: no path leads from the node to itself
unfoldable pub keeps_no_cycle : Content → Node → Bool
keeps_no_cycle graph node = not (reaches_in graph node.name node.name)

-- the root is the node, or a path leads from it to the node
abbrev pub needs : Content → Node → Spec → Bool
needs graph node spec = is_some_and spec.top.name (λ root. bytes_eq root node.name || reaches_in graph root node.name)

-- Unreachable: it is a root's node, or ends a path from one
unfoldable pub keeps_reachable : Problem → Content → Node → Bool
keeps_reachable problem graph node = list_any (needs graph node) problem.roots
