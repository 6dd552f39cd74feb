use Rattle.std.proofs.Common.{◌∙◌, sym}
use Rattle.spec_find.proofs.FoundLaws.{places_more, places_same}
use Rattle.spec_find.proofs.search.places_in.Goals as goal
use Rattle.spec_find.proofs.search.places_in.Goals.{then-is_marked+in_ok-push, else-is_marked}

pub loop-placed-preserved : goal.loop-placed-preserved
loop-placed-preserved c = elim c.if-is_marked.branch [
  | then-is_marked+in_ok-push w ↦ rw (w.places-is, w.in_ok-push.ensures.items) (places_more c.args.order.now c.args.marks.now
      c.loop-placed.placed-index _ c.loop-placed.places.items c.loop-placed-test.true c.loop-placed.invariant
      (sym c.is_marked.ensures ∙ w.if-is_marked.true))
  | else-is_marked w ↦ rw w.places-is (places_same c.args.order.now c.args.marks.now c.loop-placed.placed-index _
      c.loop-placed.places.items c.loop-placed-test.true c.loop-placed.invariant (sym c.is_marked.ensures ∙ w.if-is_marked.false))
]
