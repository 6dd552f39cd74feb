-- The canonical text of a record: its compact JSON, without the hash.
use Rattle.std.specs.Prelude.{ℕ, List, [], ◌∷◌, ◌++◌, map, fold, codes, Option, Some, None, if◌then◌else◌}
use Rattle.spec_hash.specs.Base32.{hash_of}
use Rattle.serde_json.specs.Data.{Data, null, string, array, object, Items, no_items, item, Members, no_members, member, put}
use Rattle.serde_json.specs.View.{items_of}
use Rattle.serde_json.specs.Written.{compact_text}
use Rattle.graph_core.specs.Graphs.{Text}
use Rattle.graph_core.specs.declared.node.Compiler.{Compiler}
use Rattle.graph_core.specs.declared.node.Kinds.{Kinds}
use Rattle.reuse_db.specs.declared.record.Dependency.{Dependency}
use Rattle.reuse_db.specs.declared.record.Record.{Record}

abbrev pub texts_data : List Text → Data
texts_data texts = array (items_of (map string texts))

-- ---- the parts

abbrev pub compiler_data : Option Compiler → Data
compiler_data None = null
compiler_data (Some compiler) =
    object (member (codes "name") (string compiler.name) (member (codes "version") (string compiler.version) no_members))

abbrev pub external_data : Option Text → Data
external_data None = null
external_data (Some prefix) = string prefix

-- the variants by their names, each with its values in byte order
abbrev pub variant_members : List (Text × List Text) → Members
variant_members variants = fold (λ ms v. put v.0 (texts_data v.1) ms) no_members variants

-- the kinds in the order build, link, run
abbrev pub kind_texts : Kinds → List Text
kind_texts kinds =
    (if kinds.build then codes "build" ∷ [] else [])
    ++ (if kinds.link then codes "link" ∷ [] else [])
    ++ (if kinds.run then codes "run" ∷ [] else [])

-- what is provided, where something is
abbrev pub virtual_members : List Text → Members
virtual_members [] = no_members
virtual_members (name ∷ names) = member (codes "virtuals") (texts_data (name ∷ names)) no_members

abbrev pub dependency_data : Dependency → Data
dependency_data d = object
    (member (codes "hash") (string d.hash) (member (codes "kinds") (texts_data (kind_texts d.kinds)) (virtual_members d.virtuals)))

-- the dependencies by bytes of their hashes
abbrev pub dependency_members : List Dependency → Members
dependency_members dependencies = fold (λ ms d. put d.hash (dependency_data d) ms) no_members dependencies

abbrev pub values_of : Members → Items
values_of no_members = no_items
values_of (member k d ms) = item d (values_of ms)

-- ---- the whole

-- the object of a record, without its hash, keys in byte order
abbrev pub record_data : Record → Data
record_data entry = object
    (member (codes "compiler") (compiler_data entry.compiler)
    (member (codes "dependencies") (array (values_of (dependency_members entry.dependencies)))
    (member (codes "external") (external_data entry.external)
    (member (codes "name") (string entry.name)
    (member (codes "os") (string entry.os)
    (member (codes "target") (string entry.target)
    (member (codes "variants") (object (variant_members entry.variants))
    (member (codes "version") (string entry.version) no_members))))))))

unfoldable pub canonical : Record → List ℕ
canonical entry = compact_text (record_data entry)

-- the hash that a record is to have
abbrev pub right_hash : Record → Text
right_hash entry = hash_of (canonical entry)
