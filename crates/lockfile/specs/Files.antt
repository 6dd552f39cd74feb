-- What a lock file's JSON says. Keys go in byte order, missing and unknown ones among them, and each fault is a wrong kind.
use Rattle.std.specs.Prelude.{ℕ, All, Contains, Bool, true, false, List, [], ◌∷◌, map, codes, Option, Some, None, Ok, if◌then◌else◌, option_and_then}
use Rattle.std.specs.List.{list_any}
use Rattle.std.specs.Str.{bytes_eq}
use Rattle.variant_values.specs.Texts.{with_texts}
use Rattle.serde_json.specs.Data.{Data, Members}
use Rattle.serde_json.specs.Find.{as_str, get_member}
use Rattle.json_readers.specs.Faults.{Reading, ◌>>=◌, wrong_kind}
use Rattle.json_readers.specs.Texts.{text_of, whole_number}
use Rattle.json_readers.specs.Lists.{list_of}
use Rattle.json_readers.specs.Maps.{map_of}
use Rattle.json_readers.specs.Objects.{members_of, first_odd, field, none_odd, null_or}
use Rattle.json_texts.specs.Forms.{name_meaning}
use Rattle.graph_core.specs.Graphs.{Text}
use Rattle.graph_core.specs.declared.node.Origin.{Origin}
use Rattle.graph_core.specs.declared.node.Origin.TheVariants.{Built, External, Installed}
use Rattle.record_reader.specs.Texts.{hash_meaning}
use Rattle.record_reader.specs.Files.{may_name_virtuals, version_at}
use Rattle.record_reader.specs.Records.{front_at, middle_at, back_at}
use Rattle.lockfile.specs.declared.file.File.{File}
use Rattle.lockfile.specs.declared.node.Body.{Body}
use Rattle.lockfile.specs.declared.node.NodeHead.{NodeHead}
use Rattle.lockfile.specs.declared.node.LockedNode.{LockedNode}

-- ---- nodes

abbrev pub is_that_text : Option Text → Text → Bool
is_that_text None text = false
is_that_text (Some other) text = bytes_eq other text

-- whether the member at `origin` is `external`
abbrev pub is_external : Members → Bool
is_external ms = is_that_text (option_and_then as_str (get_member (codes "origin") ms)) (codes "external")

-- the place of the entry of an external, and null for any other node
abbrev pub entry_at : Bool → Data → Reading (Option ℕ)
entry_at true d = whole_number d >>= λ entry. Ok (Some entry)
entry_at false d = null_or (λ other. wrong_kind) d

abbrev pub origin_meaning : Text → Option Text
origin_meaning text = if list_any (bytes_eq text) (codes "built" ∷ codes "external" ∷ codes "installed" ∷ []) then Some text else None

-- where a node comes from, by its entry, what is written, and its hash
abbrev pub origin_by : Option ℕ → Text → Text → Origin
origin_by (Some entry) text hash = External entry
origin_by None text hash = if bytes_eq text (codes "installed") then Installed hash else Built

abbrev pub node_keys : List Text
node_keys = codes "compiler" ∷ codes "dependencies" ∷ codes "entry" ∷ codes "external" ∷ codes "hash" ∷ codes "name" ∷ codes "origin"
    ∷ codes "os" ∷ codes "target" ∷ codes "variants" ∷ codes "version" ∷ []

-- its keys up to `entry`; in the format's second version dependencies may name virtuals
unfoldable pub head_at : Bool → Option Text → Members → Reading NodeHead
head_at may_name_virtuals odd ms = do
  front ← front_at may_name_virtuals odd ms
  entry ← field (entry_at (is_external ms)) odd (codes "entry") ms
  Ok (record { front = front; entry = entry })

-- its keys up to `origin`
unfoldable pub body_at : Option Text → Members → Reading Body
body_at odd ms = do
  middle ← middle_at odd ms
  origin ← field (text_of origin_meaning) odd (codes "origin") ms
  Ok (record { middle = middle; origin = origin })

-- a record with `entry` and `origin` among its keys
unfoldable pub node_at : Bool → Data → Reading LockedNode
node_at may_name_virtuals d = do
  ms ← members_of d
  let odd = first_odd node_keys ms in do
    head ← head_at may_name_virtuals odd ms
    body ← body_at odd ms
    described ← back_at head.front body.middle odd ms
    Ok (record { described = described; origin = origin_by head.entry body.origin body.middle.hash })

-- ---- the whole

abbrev pub node_names : List LockedNode → List Text
node_names nodes = map (λ node. node.described.name) nodes

-- a package that provides is one of the nodes
abbrev pub node_among : List Text → Text → Option Text
node_among names text = if list_any (bytes_eq text) names then Some text else None

unfoldable pub root_at : Data → Reading (Text × Text)
root_at d = do
  ms ← members_of d
  let odd = first_odd (codes "hash" ∷ codes "spec" ∷ []) ms in do
    hash ← field (text_of hash_meaning) odd (codes "hash") ms
    spec ← field (text_of Some) odd (codes "spec") ms
    _ ← none_odd odd
    Ok (spec, hash)

abbrev pub lock_file_keys : List Text
lock_file_keys = codes "nodes" ∷ codes "providers" ∷ codes "roots" ∷ codes "version" ∷ []

-- each virtual with the node that provides it
abbrev pub providers_at : List LockedNode → Option Text → Members → Reading (List (Text × Text))
providers_at nodes odd ms = field (map_of name_meaning (text_of (node_among (with_texts [] (node_names nodes))))) odd (codes "providers") ms

-- the roots and the version, and no key behind them
unfoldable pub roots_at : Option Text → Members → Reading (List (Text × Text) × ℕ)
roots_at odd ms = do
  roots ← field (list_of root_at) odd (codes "roots") ms
  version ← field version_at odd (codes "version") ms
  _ ← none_odd odd
  Ok (roots, version)

unfoldable pub file_at : Data → Reading File
file_at d = do
  ms ← members_of d
  let odd = first_odd lock_file_keys ms in do
    nodes ← field (list_of (node_at (may_name_virtuals ms))) odd (codes "nodes") ms
    providers ← providers_at nodes odd ms
    last ← roots_at odd ms
    Ok (record { nodes = nodes; providers = providers; roots = last.0; version = last.1 })

-- each package that provides is one of the nodes
abbrev pub AreProvided : File → Type 0
AreProvided file = All (λ provider. Contains (node_names file.nodes) provider.1) file.providers
