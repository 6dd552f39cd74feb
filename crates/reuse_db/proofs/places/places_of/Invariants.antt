use Rattle.std.proofs.Common.{ℕ, ◌<◌, take}
use Rattle.reachability.specs.TextPlaces.{ArePlaces}
use Rattle.reuse_db.specs.Databases.{hashes_of, IsTwice}
use Rattle.reuse_db.proofs.places.places_of.Given as goal

abbrev pub invariant-loop-i : goal.invariant-loop-i
invariant-loop-i l = record {
  places : ArePlaces (take l.i (hashes_of l.records)) l.places;
  once : (k : ℕ) → k < l.i → IsTwice l.records k → ⊥;
}
