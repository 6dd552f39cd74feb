-- The records of a graph's nodes, and their hashes: that of a node covers those of its children.
use Rattle.std.specs.Prelude.{ℕ, List, [], map, length, Option, Some, None}
use Prim.Native.Nat.{zero, suc}
use Rattle.std.specs.Option.{unwrap_or}
use Rattle.graph_core.specs.Graphs.{Text, Content, node_of, edges_from}
use Rattle.graph_core.specs.declared.node.Edge.{Edge}
use Rattle.graph_core.specs.declared.node.Node.{Node}
use Rattle.graph_core.specs.declared.node.Origin.{Origin}
use Rattle.graph_core.specs.declared.node.Origin.TheVariants.{Built, External, Installed}
use Rattle.reuse_db.specs.Canonical.{right_hash}
use Rattle.reuse_db.specs.Databases.{record_of}
use Rattle.reuse_db.specs.declared.record.Dependency.{Dependency}
use Rattle.reuse_db.specs.declared.record.Record.{Record}

-- the child of an edge, by its hash, with what it provides
abbrev pub child_of : (Text → Text) → Edge → Dependency
child_of hash_of edge = record { hash = hash_of edge.child; kinds = edge.kinds; virtuals = edge.virtuals }

-- the record of a node that is built or external: its prefix is that of the node
abbrev pub record_of_node : Node → Text → List Dependency → Record
record_of_node node hash dependencies = record {
  hash = hash;
  name = node.name;
  version = node.version;
  variants = node.variants;
  compiler = node.compiler;
  os = node.os;
  target = node.target;
  external = node.prefix;
  dependencies = dependencies;
}

-- it depends on the children of its edges
abbrev pub own_record : Content → (Text → Text) → Text → Node → Record
own_record g hash_of hash node = record_of_node node hash (map (child_of hash_of) (edges_from g node.name))

-- an installed node has the hash of its record, and any other this one
abbrev pub hash_by : Origin → Text → Text
hash_by Built hash = hash
hash_by (External entry) hash = hash
hash_by (Installed installed) hash = installed

-- the hash of a node, by those of its children
abbrev pub hash_over : Content → (Text → Text) → Node → Text
hash_over g hash_of node = hash_by node.origin (right_hash (own_record g hash_of [] node))

abbrev pub hash_at : Content → (Text → Text) → Option Node → Text
hash_at g hash_of None = []
hash_at g hash_of (Some node) = hash_over g hash_of node

-- the hash of a node, over no more than so many edges down
unfoldable pub hash_within : ℕ → Content → Text → Text
hash_within zero g name = []
hash_within (suc steps) g name = hash_at g (hash_within steps g) (node_of g name)

-- the hash of a node: where the graph has no cycle, no path has more edges than there are nodes
abbrev pub node_hash : Content → Text → Text
node_hash g = hash_within (length g.nodes) g

-- the record that stands for a node: an installed one has that of the database, with all that it was built with
abbrev pub record_by : List Record → Origin → Record → Record
record_by records Built own = own
record_by records (External entry) own = own
record_by records (Installed hash) own = unwrap_or (record_of records hash) own

abbrev pub node_record : Content → List Record → Node → Record
node_record g records node = record_by records node.origin (own_record g (node_hash g) (node_hash g node.name) node)
