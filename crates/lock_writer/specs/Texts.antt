-- The text of a lock file: compact JSON with the keys of each object in byte order, and a line feed.
use Rattle.std.specs.Prelude.{◌≡◌, List, [], ◌∷◌, ◌++◌, map, fold, All, Some, codes}
use Rattle.std.specs.Str.{IsUtf8}
use Rattle.reachability.specs.Paths.{IsAcyclic}
use Rattle.spec_grammar.specs.Canonical.{spec_text, word_text}
use Rattle.spec_grammar.specs.declared.part.Spec.{Spec}
use Rattle.serde_json.specs.Data.{Data, null, string, number, unsigned, array, object, Members, no_members, member, put}
use Rattle.serde_json.specs.View.{items_of}
use Rattle.serde_json.specs.Written.{compact_text}
use Rattle.graph_core.specs.Graphs.{Text, Content, HasNode}
use Rattle.graph_core.specs.Paths.{JoinedIn}
use Rattle.graph_core.specs.declared.node.Node.{Node}
use Rattle.graph_core.specs.declared.node.Origin.{Origin}
use Rattle.graph_core.specs.declared.node.Origin.TheVariants.{Built, External, Installed}
use Rattle.reuse_db.specs.Canonical.{compiler_data, external_data, dependency_members, variant_members, values_of}
use Rattle.reuse_db.specs.Databases.{record_of}
use Rattle.reuse_db.specs.declared.record.Record.{Record}
use Rattle.lock_writer.specs.Hashes.{node_hash, node_record, own_record}

-- ---- nodes

-- the place of an external's entry
abbrev pub entry_data : Origin → Data
entry_data Built = null
entry_data (External entry) = number (unsigned entry)
entry_data (Installed hash) = null

abbrev pub origin_word : Origin → Text
origin_word Built = codes "built"
origin_word (External entry) = codes "external"
origin_word (Installed hash) = codes "installed"

-- a node: its record with its hash, and where it comes from
unfoldable pub node_data : Record → Origin → Data
node_data entry origin = object
    (member (codes "compiler") (compiler_data entry.compiler)
    (member (codes "dependencies") (array (values_of (dependency_members entry.dependencies)))
    (member (codes "entry") (entry_data origin)
    (member (codes "external") (external_data entry.external)
    (member (codes "hash") (string entry.hash)
    (member (codes "name") (string entry.name)
    (member (codes "origin") (string (origin_word origin))
    (member (codes "os") (string entry.os)
    (member (codes "target") (string entry.target)
    (member (codes "variants") (object (variant_members entry.variants))
    (member (codes "version") (string entry.version) no_members)))))))))))

-- a node that is built or external
abbrev pub own_data : Content → Node → Data
own_data g node = node_data (own_record g (node_hash g) (node_hash g node.name) node) node.origin

abbrev pub data_of_node : Content → List Record → Node → Data
data_of_node g records node = node_data (node_record g records node) node.origin

-- ---- providers and roots

-- each virtual with the package that provides it
abbrev pub provider_members : List (Text × Text) → Members
provider_members providers = fold (λ ms p. put p.0 (string p.1) ms) no_members providers

-- a root: the hash of the node that the spec became, and the canonical text of the spec
abbrev pub root_of : Text → Text → Data
root_of hash text = object (member (codes "hash") (string hash) (member (codes "spec") (string text) no_members))

abbrev pub root_data : Content → Spec → Data
root_data g root = root_of (node_hash g (word_text root.top.name)) (spec_text root)

-- ---- the whole

unfoldable pub lock_data : Content → List Record → List Spec → Data
lock_data g records roots = object
    (member (codes "nodes") (array (items_of (map (data_of_node g records) g.nodes)))
    (member (codes "providers") (object (provider_members g.providers))
    (member (codes "roots") (array (items_of (map (root_data g) roots)))
    (member (codes "version") (number (unsigned 2)) no_members))))

abbrev pub lock_text : Content → List Record → List Spec → Text
lock_text g records roots = compact_text (lock_data g records roots) ++ 10 ∷ []

-- ---- what can be written

abbrev pub IsRecorded : List Record → Origin → Type 0
IsRecorded records Built = Unit {0}
IsRecorded records (External entry) = Unit {0}
IsRecorded records (Installed hash) = (entry : Record) × (record_of records hash ≡ Some entry)

abbrev pub IsOfNode : Content → Spec → Type 0
IsOfNode g root = HasNode g (word_text root.top.name)

-- no cycle; each root is a node by its name, and its text is UTF-8, as that of each spec that was read; each installed node has a record
pub record CanBeWritten (g : Content) (records : List Record) (roots : List Spec) : Type 0 where
  pub acyclic : IsAcyclic (JoinedIn g)
  pub named : All (IsOfNode g) roots
  pub texts : All (λ root. IsUtf8 (spec_text root)) roots
  pub installed : All (λ node. IsRecorded records node.origin) g.nodes
