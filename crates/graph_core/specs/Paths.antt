-- Paths of a graph.
use Rattle.std.specs.Prelude.{Bool, List, map}
use Rattle.std.specs.Str.{bytes_eq}
use Rattle.keyed_lists.specs.OfReachability.Paths.{HasArc, reached, reaches}
use Rattle.graph_core.specs.Graphs.{Text, Content, ends_of}

-- the ends of the edges, each parent with its child
abbrev pub arcs_of : Content → List (Text × Text)
arcs_of g = map ends_of g.edges

-- an edge of the graph goes from the first name to the second
abbrev pub JoinedIn : Content → Text → Text → Type 0
JoinedIn g = HasArc (arcs_of g)

-- where paths from the name lead to
abbrev pub reached_in : Content → Text → List Text
reached_in g = reached bytes_eq (arcs_of g)

-- whether a path leads from the first name to the second
abbrev pub reaches_in : Content → Text → Text → Bool
reaches_in g = reaches bytes_eq (arcs_of g)
