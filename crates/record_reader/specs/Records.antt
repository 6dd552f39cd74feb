-- What a record's object says. Its keys go in byte order, missing and unknown ones among them, and each fault is a wrong kind.
use Rattle.std.specs.Prelude.{Bool, ◌&&◌, List, [], ◌∷◌, codes, Option, Some, None, is_some, Ok, if◌then◌else◌}
use Rattle.variant_values.specs.Texts.{with_texts}
use Rattle.serde_json.specs.Data.{Data, Members}
use Rattle.serde_json.specs.Find.{get_member}
use Rattle.json_readers.specs.Faults.{Reading, ◌>>=◌}
use Rattle.json_readers.specs.Texts.{text_of}
use Rattle.json_readers.specs.Sets.{set_of, filled_by}
use Rattle.json_readers.specs.Maps.{map_of}
use Rattle.json_readers.specs.Objects.{members_of, first_odd, field, none_odd, null_or}
use Rattle.json_texts.specs.Forms.{name_meaning, value_meaning, version_in}
use Rattle.graph_core.specs.Graphs.{Text}
use Rattle.graph_core.specs.declared.node.Compiler.{Compiler}
use Rattle.graph_core.specs.declared.node.Kinds.{Kinds}
use Rattle.reuse_db.specs.declared.record.Dependency.{Dependency}
use Rattle.reuse_db.specs.declared.record.Record.{Record}
use Rattle.record_reader.specs.Texts.{hash_meaning, kind_meaning, kinds_by}
use Rattle.record_reader.specs.declared.record.Front.{Front}
use Rattle.record_reader.specs.declared.record.Middle.{Middle}

-- ---- values

-- a non-empty list of kinds without repeats
unfoldable pub kinds_at : Data → Reading Kinds
kinds_at d = do
  texts ← filled_by (set_of kind_meaning None (text_of kind_meaning)) d
  Ok (kinds_by texts)

-- a non-empty list of values without repeats, as a set
unfoldable pub variant_values_at : Data → Reading (List Text)
variant_values_at d = do
  texts ← filled_by (set_of value_meaning None (text_of value_meaning)) d
  Ok (with_texts [] texts)

unfoldable pub compiler_at : Data → Reading Compiler
compiler_at d = do
  ms ← members_of d
  let odd = first_odd (codes "name" ∷ codes "version" ∷ []) ms in do
    name ← field (text_of name_meaning) odd (codes "name") ms
    version ← field (text_of version_in) odd (codes "version") ms
    _ ← none_odd odd
    Ok (record { name = name; version = version })

-- a non-empty list of names without repeats, as a set
unfoldable pub virtuals_at : Data → Reading (List Text)
virtuals_at d = do
  texts ← filled_by (set_of name_meaning None (text_of name_meaning)) d
  Ok (with_texts [] texts)

-- virtuals are named, where they may be
abbrev pub has_virtuals : Bool → Members → Bool
has_virtuals may_name_virtuals ms = may_name_virtuals && is_some (get_member (codes "virtuals") ms)

abbrev pub odd_dependency_key : Bool → Members → Option Text
odd_dependency_key names ms =
    if names then first_odd (codes "hash" ∷ codes "kinds" ∷ codes "virtuals" ∷ []) ms else first_odd (codes "hash" ∷ codes "kinds" ∷ []) ms

-- none where the key is not there
abbrev pub virtuals_in : Bool → Option Text → Members → Reading (List Text)
virtuals_in names odd ms = if names then field virtuals_at odd (codes "virtuals") ms else Ok []

-- in the format's second version it may name virtuals
unfoldable pub dependency_at : Bool → Data → Reading Dependency
dependency_at may_name_virtuals d = do
  ms ← members_of d
  let names = has_virtuals may_name_virtuals ms in let odd = odd_dependency_key names ms in do
    hash ← field (text_of hash_meaning) odd (codes "hash") ms
    kinds ← field kinds_at odd (codes "kinds") ms
    virtuals ← virtuals_in names odd ms
    _ ← none_odd odd
    Ok (record { hash = hash; kinds = kinds; virtuals = virtuals })

-- ---- the keys, in three runs: a lock file has keys of its own between them

unfoldable pub front_at : Bool → Option Text → Members → Reading Front
front_at may_name_virtuals odd ms = do
  compiler ← field (null_or compiler_at) odd (codes "compiler") ms
  dependencies ← field (set_of Some (Some (codes "hash")) (dependency_at may_name_virtuals)) odd (codes "dependencies") ms
  Ok (record { compiler = compiler; dependencies = dependencies })

unfoldable pub middle_at : Option Text → Members → Reading Middle
middle_at odd ms = do
  external ← field (null_or (text_of Some)) odd (codes "external") ms
  hash ← field (text_of hash_meaning) odd (codes "hash") ms
  name ← field (text_of name_meaning) odd (codes "name") ms
  Ok (record { external = external; hash = hash; name = name })

unfoldable pub back_at : Front → Middle → Option Text → Members → Reading Record
back_at front middle odd ms = do
  os ← field (text_of value_meaning) odd (codes "os") ms
  target ← field (text_of value_meaning) odd (codes "target") ms
  variants ← field (map_of name_meaning variant_values_at) odd (codes "variants") ms
  version ← field (text_of version_in) odd (codes "version") ms
  _ ← none_odd odd
  Ok (record {
    hash = middle.hash;
    name = middle.name;
    version = version;
    variants = variants;
    compiler = front.compiler;
    os = os;
    target = target;
    external = middle.external;
    dependencies = front.dependencies;
  })

-- ---- the whole

abbrev pub record_keys : List Text
record_keys = codes "compiler" ∷ codes "dependencies" ∷ codes "external" ∷ codes "hash" ∷ codes "name" ∷ codes "os" ∷ codes "target"
    ∷ codes "variants" ∷ codes "version" ∷ []

-- an object with just these keys
unfoldable pub record_entry_at : Bool → Data → Reading Record
record_entry_at may_name_virtuals d = do
  ms ← members_of d
  let odd = first_odd record_keys ms in do
    front ← front_at may_name_virtuals odd ms
    middle ← middle_at odd ms
    back_at front middle odd ms
