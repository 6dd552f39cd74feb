-- The children of a file's nodes.
use Rattle.std.specs.Prelude.{Bool, ◌||◌, false, List, map, filter, filter_map, flat_map, find, Option, option_map}
use Rattle.std.specs.Str.{bytes_eq}
use Rattle.graph_core.specs.Graphs.{Text}
use Rattle.graph_core.specs.declared.node.Edge.{Edge}
use Rattle.graph_core.specs.declared.node.Origin.{Origin}
use Rattle.graph_core.specs.declared.node.Origin.TheVariants.{Built, External, Installed}
use Rattle.reuse_db.specs.declared.record.Dependency.{Dependency}
use Rattle.lockfile.specs.declared.node.LockedNode.{LockedNode}

abbrev pub is_link_or_run : Dependency → Bool
is_link_or_run d = d.kinds.link || d.kinds.run

abbrev pub without_build : Dependency → Dependency
without_build d = record d { kinds = record { build = false; link = d.kinds.link; run = d.kinds.run } }

-- what a node has edges to: of its dependencies, an installed node those to link or run, and for that alone
abbrev pub children_by : Origin → List Dependency → List Dependency
children_by Built dependencies = dependencies
children_by (External entry) dependencies = dependencies
children_by (Installed hash) dependencies = map without_build (filter is_link_or_run dependencies)

abbrev pub locked_children : LockedNode → List Dependency
locked_children node = children_by node.origin node.described.dependencies

-- a hash names the first node that has it
abbrev pub named_by : List LockedNode → Text → Option Text
named_by nodes hash = option_map (λ node. node.described.name) (find (λ node. bytes_eq node.described.hash hash) nodes)

-- the edge to a child, where it is a node
abbrev pub locked_edge : Text → Dependency → Option Text → Option Edge
locked_edge parent d child = option_map (λ name. record { parent = parent; child = name; kinds = d.kinds; virtuals = d.virtuals }) child

abbrev pub edges_of : List LockedNode → LockedNode → List Edge
edges_of nodes node = filter_map (λ d. locked_edge node.described.name d (named_by nodes d.hash)) (locked_children node)

abbrev pub all_edges : List LockedNode → List LockedNode → List Edge
all_edges nodes from = flat_map (edges_of nodes) from
