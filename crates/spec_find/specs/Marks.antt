-- Marks of records, by their places.
use Rattle.std.specs.Prelude.{◌≡◌, ◌↔◌, ◌⊎◌, ℕ, ◌<◌, Bool, List, length, map, All, Contains, IsTrue, Some, slice_get}
use Rattle.graph_core.specs.Graphs.{Text}
use Rattle.graph_core.specs.OfReachability.Paths.{Path}
use Rattle.graph_core.specs.OfReachability.Places.{IsAt, IsMarked, LeadsTo, AreWithin}
use Rattle.reuse_db.specs.Databases.{hashes_of}
use Rattle.reuse_db.specs.declared.record.Record.{Record}
use Rattle.condition_rules.specs.OfSpecGrammar.Part.{Part}
use Rattle.condition_rules.specs.Worlds.{World}
use Rattle.condition_rules.specs.Meets.{meets}
use Rattle.condition_rules.specs.Holds.{suits}
use Rattle.spec_find.specs.Found.{IsChained, IsMetBelow}
use Rattle.reuse_db.specs.Installed.{installed_node}

-- the same pair, the second first
abbrev pub flip : {A : Type 0} → A × A → A × A
flip pair = (pair.1, pair.0)

abbrev pub flipped : {A : Type 0} → List (A × A) → List (A × A)
flipped pairs = map flip pairs

-- for each record the places of those that need it: paths lead from a record to those from which chains lead to it
pub record AreParents (records : List Record) (parents : List (List ℕ)) : Type 0 where
  pub each : length parents ≡ length records
  pub within : AreWithin parents
  pub chained : (p q : Text) (i j : ℕ) → IsAt (hashes_of records) p i → IsAt (hashes_of records) q j
      → Path (LeadsTo parents) j i ↔ IsChained records p q

-- the node of the record at the place suits a part of this name
abbrev pub SuitsAt : World → List Record → Part → Text → ℕ → Type 0
SuitsAt world records part name place = (entry : Record) × (slice_get records place ≡ Some entry)
    × IsTrue (suits world part name (installed_node entry))

-- just the places that arcs lead to from those of records that suit the part
pub record AreStarts (world : World) (records : List Record) (parents : List (List ℕ)) (part : Part) (name : Text)
    (upto : ℕ) (starts : List ℕ) : Type 0 where
  pub exact : (i : ℕ) → Contains starts i ↔ ((s : ℕ) × (s < upto) × SuitsAt world records part name s × LeadsTo parents s i)

-- a place is marked that is a start, or ends a path from one
pub record AreAbove (parents : List (List ℕ)) (starts : List ℕ) (marks : List Bool) : Type 0 where
  pub exact : (q : ℕ) → q < length parents
      → IsMarked marks q ↔ ((s : ℕ) × Contains starts s × ((s ≡ q) ⊎ Path (LeadsTo parents) s q))

-- a mark for each record, which it has exactly where the test holds
pub record AreMarks (records : List Record) (Holds : Record → Type 0) (marks : List Bool) : Type 0 where
  pub exact : (place : ℕ) (entry : Record) → slice_get records place ≡ Some entry → IsMarked marks place ↔ Holds entry

-- the top part holds at a record, and these parts after `^` are met below it
pub record MeetsParts (world : World) (records : List Record) (first : Part) (parts : List Part) (entry : Record) : Type 0 where
  pub top : IsTrue (meets world first (installed_node entry))
  pub below : All (IsMetBelow world records entry) parts
