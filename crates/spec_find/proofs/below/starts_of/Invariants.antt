use Rattle.spec_find.specs.Marks.{AreStarts}
use Rattle.spec_find.proofs.below.starts_of.Given as goal

abbrev pub invariant-loop-place : goal.invariant-loop-place
invariant-loop-place l = AreStarts l.world l.records l.parents l.part l.name l.place l.starts
