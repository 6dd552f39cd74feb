-- What is wrong with a file whose values have their forms: each kind of fault is looked for over the whole file before the next.
use Rattle.std.specs.Prelude.{◌≡◌, ◌⊎◌, ℕ, List, [], ◌∷◌, map, find, Option, Some, None, is_none, option_map, if◌then◌else◌, Ok, Err}
use Rattle.std.specs.List.{list_any}
use Rattle.std.specs.Ordering.{is_eq}
use Rattle.variant_values.specs.Texts.{byte_cmp}
use Rattle.serde_json.specs.Data.{Data}
use Rattle.json_readers.specs.Json.{IsJson, IsNoJson}
use Rattle.json_readers.specs.declared.fault.Misfit.{Misfit}
use Rattle.graph_core.specs.Graphs.{Text}
use Rattle.reuse_db.specs.Canonical.{right_hash}
use Rattle.reuse_db.specs.Databases.{differing}
use Rattle.reuse_db.specs.declared.record.Record.{Record}
use Rattle.lockfile.specs.Children.{locked_children, named_by}
use Rattle.lockfile.specs.Files.{file_at, node_names}
use Rattle.lockfile.specs.declared.fault.LockFault.{LockFault}
use Rattle.lockfile.specs.declared.fault.LockFault.TheVariants.{NotJson, WrongKind, TwiceNamed, HashDiffers, Dangling, OutOfMemory}
use Rattle.lockfile.specs.declared.file.File.{File}
use Rattle.lockfile.specs.declared.node.LockedNode.{LockedNode}

-- ---- names

-- the first name that is one of those before it
abbrev pub named_after : List Text → List Text → Option Text
named_after before [] = None
named_after before (name ∷ names) = if list_any (λ b. is_eq (byte_cmp b name)) before then Some name else named_after (name ∷ before) names

abbrev pub twice_named : List LockedNode → Option Text
twice_named nodes = named_after [] (node_names nodes)

-- ---- hashes

abbrev pub records_of : List LockedNode → List Record
records_of nodes = map (λ node. node.described) nodes

-- the first node whose hash is not that of its record's canonical text
abbrev pub wrongly_hashed : List LockedNode → Option Record
wrongly_hashed nodes = differing (records_of nodes)

-- ---- children and roots

-- the hash of the first child of a node that is no node
abbrev pub lost_child : List LockedNode → LockedNode → Option Text
lost_child nodes node = option_map (λ d. d.hash) (find (λ d. is_none (named_by nodes d.hash)) (locked_children node))

abbrev pub behind_parent : Text → Option Text → Option (Text × Text) → Option (Text × Text)
behind_parent parent None later = later
behind_parent parent (Some child) later = Some (parent, child)

-- the first child of these that is no node, behind its parent
abbrev pub lost_from : List LockedNode → List LockedNode → Option (Text × Text)
lost_from nodes [] = None
lost_from nodes (node ∷ more) = behind_parent node.described.hash (lost_child nodes node) (lost_from nodes more)

-- the first root that is no node, as parent and child
abbrev pub lost_root : List LockedNode → List (Text × Text) → Option (Text × Text)
lost_root nodes [] = None
lost_root nodes (root ∷ roots) = if is_none (named_by nodes root.1) then Some (root.1, root.1) else lost_root nodes roots

-- the first of two, if there is one
abbrev pub either_of : Option (Text × Text) → Option (Text × Text) → Option (Text × Text)
either_of None second = second
either_of (Some first) second = Some first

abbrev pub dangling_in_file : File → Option (Text × Text)
dangling_in_file file = either_of (lost_from file.nodes file.nodes) (lost_root file.nodes file.roots)

-- ---- faults

-- a file without a fault
pub record IsSoundFile (file : File) : Type 0 where
  pub named : twice_named file.nodes ≡ None
  pub hashed : wrongly_hashed file.nodes ≡ None
  pub known : dangling_in_file file ≡ None

-- what a search for names that stand twice finds, and one for hashes that differ
abbrev pub IsTwiceFault : List LockedNode → LockFault → Type 0
IsTwiceFault nodes NotJson = ⊥
IsTwiceFault nodes (WrongKind at) = ⊥
IsTwiceFault nodes (TwiceNamed name) = twice_named nodes ≡ Some name
IsTwiceFault nodes (HashDiffers written computed) = ⊥
IsTwiceFault nodes (Dangling parent child) = ⊥
IsTwiceFault nodes OutOfMemory = Unit {0}

abbrev pub IsHashFault : List LockedNode → LockFault → Type 0
IsHashFault nodes NotJson = ⊥
IsHashFault nodes (WrongKind at) = ⊥
IsHashFault nodes (TwiceNamed name) = ⊥
IsHashFault nodes (HashDiffers written computed) = (entry : Record) × (wrongly_hashed nodes ≡ Some entry) × (written ≡ entry.hash)
    × (computed ≡ right_hash entry)
IsHashFault nodes (Dangling parent child) = ⊥
IsHashFault nodes OutOfMemory = Unit {0}

-- the fault of a file whose values have their forms
abbrev pub IsFileFault : File → LockFault → Type 0
IsFileFault file NotJson = ⊥
IsFileFault file (WrongKind at) = ⊥
IsFileFault file (TwiceNamed name) = twice_named file.nodes ≡ Some name
IsFileFault file (HashDiffers written computed) = (twice_named file.nodes ≡ None)
    × ((entry : Record) × (wrongly_hashed file.nodes ≡ Some entry) × (written ≡ entry.hash) × (computed ≡ right_hash entry))
IsFileFault file (Dangling parent child) = (twice_named file.nodes ≡ None) × (wrongly_hashed file.nodes ≡ None)
    × (dangling_in_file file ≡ Some (parent, child))
IsFileFault file OutOfMemory = Unit {0}

-- the first value that has not its form
abbrev pub IsLockMisfit : Data → LockFault → Type 0
IsLockMisfit d fault = (misfit : Misfit) × (file_at d ≡ Err misfit) × (fault ≡ WrongKind misfit.at)

-- the fault of a value: the first that has not its form, or else a fault of the file
abbrev pub IsLockFaultOf : Data → LockFault → Type 0
IsLockFaultOf d fault = (fault ≡ OutOfMemory) ⊎ IsLockMisfit d fault ⊎ ((file : File) × (file_at d ≡ Ok file) × IsFileFault file fault)

-- the bytes are no JSON text, or that of a value with this fault; want of memory may come instead
abbrev pub IsLockFault : List ℕ → LockFault → Type 0
IsLockFault bytes fault = (fault ≡ OutOfMemory) ⊎ ((fault ≡ NotJson) × IsNoJson bytes)
    ⊎ ((d : Data) × IsJson bytes d × IsLockFaultOf d fault)
