-- Which graphs are read again as themselves, and what is read of them.
use Rattle.std.specs.Prelude.{◌≡◌, ◌↔◌, List, map, filter, All, Contains, Some}
use Rattle.reachability.specs.Paths.{IsAcyclic}
use Rattle.keyed_lists.specs.Keyed.{IsInOrder}
use Rattle.variant_values.specs.Texts.{byte_cmp}
use Rattle.spec_grammar.specs.declared.part.Spec.{Spec}
use Rattle.json_texts.specs.Forms.{name_meaning, value_meaning, version_in}
use Rattle.graph_core.specs.Graphs.{Text, Content, edges_from}
use Rattle.graph_core.specs.Paths.{JoinedIn}
use Rattle.graph_core.specs.declared.node.Node.{Node}
use Rattle.graph_core.specs.declared.node.Origin.{Origin}
use Rattle.graph_core.specs.declared.node.Origin.TheVariants.{Built, External, Installed}
use Rattle.reuse_db.specs.Databases.{record_of}
use Rattle.reuse_db.specs.declared.record.Dependency.{Dependency}
use Rattle.reuse_db.specs.declared.record.Record.{Record}
use Rattle.lock_writer.specs.Hashes.{child_of, node_hash}
use Rattle.lockfile.specs.Children.{is_link_or_run, without_build}
use Rattle.lockfile.specs.Locks.{graph_node}
use Rattle.lockfile.specs.declared.lock.Lock.{Lock}
use Rattle.lockfile.specs.Again.{AreVirtuals, Has, HasKind, IsCompiler, IsDependency, IsVariant}
use Rattle.lockfile.specs.Formed.{locked_root}

-- ---- one node

-- its texts have the forms that the table of records gives them
pub record HasForms (node : Node) : Type 0 where
  pub name : Has name_meaning node.name
  pub version : Has version_in node.version
  pub os : Has value_meaning node.os
  pub target : Has value_meaning node.target
  pub compiler : IsCompiler node.compiler
  -- each variant is a name with at least one value
  pub variants : All IsVariant node.variants
  -- in byte order of names, each name once
  pub variant_order : IsInOrder byte_cmp (λ v. v.0) node.variants

-- the dependencies of a record of a database: each hash once, with at least one kind, and names of virtuals
pub record AreDependencies (dependencies : List Dependency) : Type 0 where
  pub each : All IsDependency dependencies
  pub once : (a b : Dependency) → Contains dependencies a → Contains dependencies b → a.hash ≡ b.hash → a ≡ b

-- the hashes of the nodes to which a node has edges, with the kinds and the virtuals of these
abbrev pub children_in : Content → Node → List Dependency
children_in g node = map (child_of (node_hash g)) (edges_from g node.name)

-- an installed node is as its record
pub record IsOfRecord (g : Content) (node : Node) (entry : Record) : Type 0 where
  -- it has the record's name, attributes and prefix
  pub same : graph_node (record { described = entry; origin = node.origin }) ≡ node
  -- its edges are those of the record, to its link and run children, and each goes to the node with the child's hash
  pub edges : (child : Dependency) → Contains (children_in g node) child
      ↔ Contains (map without_build (filter is_link_or_run entry.dependencies)) child
  -- the record has its form, as each of a database, where children for building alone have a part too
  pub form : AreDependencies entry.dependencies

-- an installed node has a record with its hash
abbrev pub IsAsInstalled : Content → List Record → Node → Origin → Type 0
IsAsInstalled g records node Built = Unit {0}
IsAsInstalled g records node (External entry) = Unit {0}
IsAsInstalled g records node (Installed hash) = (entry : Record) × (record_of records hash ≡ Some entry) × IsOfRecord g node entry

-- ---- the graph

-- a graph that is read again as itself, where these records are installed
pub record IsWritable (g : Content) (records : List Record) : Type 0 where
  -- it has no cycle
  pub acyclic : IsAcyclic (JoinedIn g)
  -- no two of its nodes have one hash
  pub apart : (a b : Node) → Contains g.nodes a → Contains g.nodes b → node_hash g a.name ≡ node_hash g b.name → a ≡ b
  -- its texts have their forms, and its variants their order
  pub forms : All HasForms g.nodes
  -- its virtuals are names
  pub virtuals : All (λ provider. Has name_meaning provider.0) g.providers
  -- each edge has a kind, and its virtuals are names
  pub kinds : All (λ edge. HasKind edge.kinds) g.edges
  pub named : All (λ edge. AreVirtuals edge.virtuals) g.edges
  -- each installed node is as its record
  pub installed : All (λ node. IsAsInstalled g records node node.origin) g.nodes

-- ---- what is read

-- the name of each node with its hash
abbrev pub hashes_in : Content → List Node → List (Text × Text)
hashes_in g nodes = map (λ node. (node.name, node_hash g node.name)) nodes

-- the graph, with the canonical text of each root and the hash of its node
abbrev pub lock_of : Content → List Spec → Lock
lock_of g roots = record { graph = g; roots = map (locked_root g) roots; hashes = hashes_in g g.nodes; version = 2 }
