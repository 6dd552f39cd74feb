-- The records that meet a spec.
use Rattle.std.specs.Prelude.{◌≡◌, ◌↔◌, ℕ, Bool, ◌||◌, List, [], map, filter, slice_get, slice_index_or, Some, IsTrue, All, Contains}
use Rattle.std.specs.List.{flat_map}
use Rattle.graph_core.specs.Graphs.{Text}
use Rattle.graph_core.specs.OfVariantValues.Texts.{byte_cmp}
use Rattle.graph_core.specs.OfKeyedLists.Keyed.{IsInOrder}
use Rattle.graph_core.specs.OfReachability.Paths.{Path, HasArc}
use Rattle.reuse_db.specs.declared.record.Dependency.{Dependency}
use Rattle.reuse_db.specs.Databases.{hashes_of}
use Rattle.reuse_db.specs.Installed.{installed_node}
use Rattle.reuse_db.specs.declared.record.Record.{Record}
use Rattle.condition_rules.specs.OfSpecGrammar.Part.{Part}
use Rattle.condition_rules.specs.OfSpecGrammar.Spec.{Spec}
use Rattle.condition_rules.specs.Worlds.{World}
use Rattle.condition_rules.specs.Meets.{meets}
use Rattle.condition_rules.specs.Holds.{suits}

-- it is needed to link or to run, and not to build alone
abbrev pub is_kept : Dependency → Bool
is_kept d = d.kinds.link || d.kinds.run

-- the hash of a record with that of each of its link and run dependencies
abbrev pub links_of : Record → List (Text × Text)
links_of entry = map (λ d. (entry.hash, d.hash)) (filter is_kept entry.dependencies)

abbrev pub links_in : List Record → List (Text × Text)
links_in records = flat_map links_of records

-- a chain of one or more link and run dependencies leads from the first hash to the second
abbrev pub IsChained : List Record → Text → Text → Type 0
IsChained records = Path (HasArc (links_in records))

-- a part after `^` is met below a record: it has a name, and a chain leads to a record whose node suits it, by holding
-- there or, where the name is a virtual, by providing it for the part's list with the other constraints
pub record IsMetBelow (world : World) (records : List Record) (entry : Record) (part : Part) : Type 0 where
  pub name : Text
  pub named : part.name ≡ Some name
  pub below : Record
  pub there : Contains records below
  pub chained : IsChained records entry.hash below.hash
  pub holds : IsTrue (suits world part name (installed_node below))

-- a record meets a spec: the top part holds at its node, and each part after `^` is met below it
pub record MeetsSpec (world : World) (records : List Record) (spec : Spec) (entry : Record) : Type 0 where
  pub top : IsTrue (meets world spec.top (installed_node entry))
  pub below : All (IsMetBelow world records entry) spec.below

-- the hash of the record at a place
abbrev pub placed_hash : List Record → ℕ → Text
placed_hash records place = slice_index_or (hashes_of records) place []

-- the places of exactly the records that meet the spec, once and by bytes of their hashes
pub record AreFound (world : World) (records : List Record) (spec : Spec) (places : List ℕ) : Type 0 where
  pub order : IsInOrder byte_cmp (placed_hash records) places
  pub exact : (place : ℕ) → Contains places place
      ↔ ((entry : Record) × (slice_get records place ≡ Some entry) × MeetsSpec world records spec entry)
