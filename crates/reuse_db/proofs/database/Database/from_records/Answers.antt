use Rattle.reuse_db.proofs.database.Database.from_records.Goals as goal

pub invariant_of-result : goal.invariant_of-result
invariant_of-result c = record {
  right = rw c.as_slice.ensures at c.in_ok-places.ensures.right;
  places =
      rw c.as_slice.ensures at c.in_ok-places.ensures.places;
}
