-- What edges name in a graph that was read from a lock file of the first version, where they name nothing.
use Rattle.std.specs.Prelude.{Bool, List, [], map, filter, filter_map, Option, Some, None, if◌then◌else◌}
use Rattle.problem.specs.OfVariantValues.Texts.{with_texts}
use Rattle.problem.specs.OfGraphCore.Graphs.{Text, Content, node_of}
use Rattle.problem.specs.OfGraphCore.Node.{Node}
use Rattle.problem.specs.OfGraphCore.Edge.{Edge}
use Rattle.problem.specs.OfConditionRules.Words.{is_some_and}
use Rattle.problem.specs.OfRecipeData.DependRow.{DependRow}
use Rattle.problem.specs.OfVirtuals.Virtuals.{is_virtual}
use Rattle.problem.specs.Nodes.{is_built}
use Rattle.problem.specs.Problems.{Problem}
use Rattle.graph_rules.specs.Built.{asking}

-- the row of `depends_on` is on a virtual
abbrev pub is_on_virtual : Problem → DependRow → Bool
is_on_virtual problem row = is_some_and row.part.name (is_virtual problem.recipes)

-- the virtuals whose provider is the child and on which some `depends_on` holds at the node
unfoldable pub answered_virtuals : Problem → Content → Node → Text → List Text
answered_virtuals problem graph node child =
    with_texts [] (filter_map (λ row. row.part.name) (filter (is_on_virtual problem) (asking problem graph node child)))

-- the virtuals of an edge from a node: of one to be built those that the child answers, of another its own
abbrev pub named_from : Problem → Content → Edge → Option Node → List Text
named_from problem graph e None = e.virtuals
named_from problem graph e (Some node) = if is_built node then answered_virtuals problem graph node e.child else e.virtuals

abbrev pub named_edge : Problem → Content → Edge → Edge
named_edge problem graph e = record e { virtuals = named_from problem graph e (node_of graph e.parent) }

-- the graph, each of whose edges names its virtuals
unfoldable pub named_graph : Problem → Content → Content
named_graph problem graph = record graph { edges = map (named_edge problem graph) graph.edges }
