use Rattle.std.proofs.Common.{take}
use Rattle.reachability.specs.Places.{AreNumbered}
use Rattle.reuse_db.specs.Databases.{hashes_of}
use Rattle.spec_find.specs.Found.{links_in}
use Rattle.spec_find.specs.Marks.{flipped}
use Rattle.spec_find.proofs.links.arcs_to_parents.Given as goal

abbrev pub invariant-loop-place : goal.invariant-loop-place
invariant-loop-place l = AreNumbered (hashes_of l.records) (flipped (links_in (take l.place l.records))) l.arcs.items
