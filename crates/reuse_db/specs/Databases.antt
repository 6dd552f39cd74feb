-- Databases: records, and their faults.
use Rattle.std.specs.Prelude.{◌≡◌, ℕ, ◌<◌, Bool, not, ◌&&◌, ◌||◌, List, [], ◌∷◌, map, find, take, length, Contains, Option, Some, None}
use Rattle.std.specs.List.{HoldsAt, list_any}
use Rattle.std.specs.Str.{bytes_eq}
use Rattle.graph_core.specs.Graphs.{Text}
use Rattle.reuse_db.specs.Canonical.{right_hash}
use Rattle.reuse_db.specs.declared.record.Dependency.{Dependency}
use Rattle.reuse_db.specs.declared.record.Record.{Record}
use Rattle.reuse_db.specs.declared.fault.DbFault.{DbFault}
use Rattle.reuse_db.specs.declared.fault.DbFault.TheVariants.{NotJson, WrongKind, HashDiffers, TwiceHash, Dangling, OutOfMemory}

-- the record with a hash
abbrev pub record_of : List Record → Text → Option Record
record_of records hash = find (λ entry. bytes_eq entry.hash hash) records

abbrev pub hashes_of : List Record → List Text
hashes_of records = map (λ entry. entry.hash) records

-- the first record whose hash is not the computed one
abbrev pub differing : List Record → Option Record
differing records = find (λ entry. not (bytes_eq entry.hash (right_hash entry))) records

-- the record at the place has the hash of one before it
abbrev pub IsTwice : List Record → ℕ → Type 0
IsTwice records place = (place < length records) × HoldsAt (λ entry. Contains (take place (hashes_of records)) entry.hash) records place

-- no hash stands twice
abbrev pub HasNoTwice : List Record → Type 0
HasNoTwice records = (place : ℕ) → IsTwice records place → ⊥

-- the first record that has the hash of one before it has this one
abbrev pub IsFirstTwice : List Record → Text → Type 0
IsFirstTwice records hash = (place : ℕ) × IsTwice records place × ((k : ℕ) → k < place → IsTwice records k → ⊥)
    × HoldsAt (λ entry. entry.hash ≡ hash) records place

-- a link or run child that is none of these
abbrev pub is_lost : List Text → Dependency → Bool
is_lost hashes d = (d.kinds.link || d.kinds.run) && not (list_any (bytes_eq d.hash) hashes)

abbrev pub lost_or : Record → Option Dependency → Option (Text × Text) → Option (Text × Text)
lost_or entry None later = later
lost_or entry (Some d) later = Some (entry.hash, d.hash)

-- the first link or run child that is no record, behind its parent
abbrev pub dangling : List Text → List Record → Option (Text × Text)
dangling hashes [] = None
dangling hashes (entry ∷ more) = lost_or entry (find (is_lost hashes) entry.dependencies) (dangling hashes more)

-- what a search for differing hashes finds, and one for hashes that stand twice
abbrev pub IsHashFault : List Record → DbFault → Type 0
IsHashFault records NotJson = ⊥
IsHashFault records (WrongKind pointer) = ⊥
IsHashFault records (HashDiffers written computed) = (entry : Record) × (differing records ≡ Some entry) × (written ≡ entry.hash)
    × (computed ≡ right_hash entry)
IsHashFault records (TwiceHash hash) = ⊥
IsHashFault records (Dangling parent child) = ⊥
IsHashFault records OutOfMemory = Unit {0}

abbrev pub IsTwiceFault : List Record → DbFault → Type 0
IsTwiceFault records NotJson = ⊥
IsTwiceFault records (WrongKind pointer) = ⊥
IsTwiceFault records (HashDiffers written computed) = ⊥
IsTwiceFault records (TwiceHash hash) = IsFirstTwice records hash
IsTwiceFault records (Dangling parent child) = ⊥
IsTwiceFault records OutOfMemory = Unit {0}

-- the fault of records: the first kind that exists, at its first place
abbrev pub IsDatabaseFault : List Record → DbFault → Type 0
IsDatabaseFault records NotJson = ⊥
IsDatabaseFault records (WrongKind pointer) = ⊥
IsDatabaseFault records (HashDiffers written computed) = (entry : Record) × (differing records ≡ Some entry) × (written ≡ entry.hash)
    × (computed ≡ right_hash entry)
IsDatabaseFault records (TwiceHash hash) = (differing records ≡ None) × IsFirstTwice records hash
IsDatabaseFault records (Dangling parent child) = (differing records ≡ None) × HasNoTwice records
    × (dangling (hashes_of records) records ≡ Some (parent, child))
IsDatabaseFault records OutOfMemory = Unit {0}

-- records without a fault
pub record AreRecords (records : List Record) : Type 0 where
  pub same : differing records ≡ None
  pub once : HasNoTwice records
  pub known : dangling (hashes_of records) records ≡ None
