-- What a lock file is read as.
use Rattle.std.specs.Prelude.{◌≡◌, ℕ, List, map, Ok}
use Rattle.serde_json.specs.Data.{Data}
use Rattle.json_readers.specs.Json.{IsJson}
use Rattle.variant_values.specs.Texts.{byte_cmp}
use Rattle.keyed_lists.specs.Keyed.{IsInOrder, find_key}
use Rattle.graph_core.specs.Graphs.{Text, Content, IsGraph, node_of, name_of, ends_of, virtual_of, pair_cmp}
use Rattle.graph_core.specs.declared.node.Node.{Node}
use Rattle.lockfile.specs.Children.{all_edges}
use Rattle.lockfile.specs.Faults.{IsSoundFile}
use Rattle.lockfile.specs.Files.{file_at}
use Rattle.lockfile.specs.declared.file.File.{File}
use Rattle.lockfile.specs.declared.lock.Lock.{Lock}
use Rattle.lockfile.specs.declared.node.LockedNode.{LockedNode}

-- the node of a graph: its prefix is the record's `external`
abbrev pub graph_node : LockedNode → Node
graph_node node = record {
  name = node.described.name;
  version = node.described.version;
  variants = node.described.variants;
  compiler = node.described.compiler;
  os = node.described.os;
  target = node.described.target;
  prefix = node.described.external;
  origin = node.origin;
}

abbrev pub graph_nodes : List LockedNode → List Node
graph_nodes nodes = map graph_node nodes

-- a graph, each of whose look-ups finds the first of the file with that key
pub record IsGraphOf (file : File) (g : Content) : Type 0 where
  pub whole : IsGraph g
  pub nodes : (name : Text) → node_of g name ≡ find_key byte_cmp name_of (graph_nodes file.nodes) name
  pub edges : (ends : Text × Text) → find_key pair_cmp ends_of g.edges ends ≡ find_key pair_cmp ends_of
      (all_edges file.nodes file.nodes) ends
  pub providers : (name : Text) → find_key byte_cmp virtual_of g.providers name ≡ find_key byte_cmp virtual_of file.providers name

-- a name with its hash
abbrev pub named_hash : LockedNode → Text × Text
named_hash node = (node.described.name, node.described.hash)

abbrev pub named_hashes : List LockedNode → List (Text × Text)
named_hashes nodes = map named_hash nodes

-- names with hashes: in byte order of names, each as the file has it
pub record AreHashesOf (nodes : List LockedNode) (hashes : List (Text × Text)) : Type 0 where
  pub order : IsInOrder byte_cmp (λ h. h.0) hashes
  pub found : (name : Text) → find_key byte_cmp (λ h. h.0) hashes name ≡ find_key byte_cmp (λ h. h.0) (named_hashes nodes) name

pub record IsLockOf (file : File) (lock : Lock) : Type 0 where
  pub sound : IsSoundFile file
  pub graph : IsGraphOf file lock.graph
  pub roots : lock.roots ≡ file.roots
  pub hashes : AreHashesOf file.nodes lock.hashes
  pub version : lock.version ≡ file.version

-- the bytes are the JSON text of a file without a fault, which says this
abbrev pub IsLock : List ℕ → Lock → Type 0
IsLock bytes lock = (d : Data) × IsJson bytes d × ((file : File) × (file_at d ≡ Ok file) × IsLockOf file lock)
