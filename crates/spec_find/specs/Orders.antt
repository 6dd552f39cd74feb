-- Records by bytes of their hashes.
use Rattle.std.specs.Prelude.{◌≡◌, ℕ, ◌<◌, List, map, length, All, Contains}
use Rattle.graph_core.specs.Graphs.{Text}
use Rattle.graph_core.specs.OfVariantValues.Texts.{byte_cmp}
use Rattle.graph_core.specs.OfKeyedLists.Keyed.{IsInOrder}
use Rattle.graph_core.specs.OfReachability.Places.{IsAt}
use Rattle.reuse_db.specs.Databases.{hashes_of}
use Rattle.reuse_db.specs.declared.record.Record.{Record}
use Rattle.spec_find.specs.declared.order.Placed.{Placed}

abbrev pub hash_of : Placed → Text
hash_of placed = placed.hash.now

-- each record's hash with its place, in the order of the records
pub record ArePlaced (records : List Record) (order : List Placed) : Type 0 where
  pub hashes : map hash_of order ≡ hashes_of records
  pub places : All (λ placed. IsAt (hashes_of records) (hash_of placed) placed.place) order
  pub each : (place : ℕ) → place < length records → (placed : Placed) × Contains order placed × (placed.place ≡ place)

-- the same by bytes of hashes, each hash once
pub record AreByHash (records : List Record) (order : List Placed) : Type 0 where
  pub rises : IsInOrder byte_cmp hash_of order
  pub places : All (λ placed. IsAt (hashes_of records) (hash_of placed) placed.place) order
  pub each : (place : ℕ) → place < length records → (placed : Placed) × Contains order placed × (placed.place ≡ place)
