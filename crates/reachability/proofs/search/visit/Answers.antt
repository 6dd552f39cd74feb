use Rattle.std.proofs.Common.{sym, ◌∙◌, arith}
use Rattle.std.proofs.lemmas.List.{take_more}
use Rattle.reachability.proofs.SearchLaws.{visits_seen, visits_new}
use Rattle.reachability.proofs.search.visit.Goals as goal
use Rattle.reachability.proofs.search.visit.Goals.{then-not-get+in_ok-push, else-not-get}

pub loop-place-preserved : goal.loop-place-preserved
loop-place-preserved c =
    rw (take_more c.args.places.now c.loop-place.place-index 0 c.loop-place-test.true) (elim c.if-not-get.branch [
      | then-not-get+in_ok-push w ↦ rw (w.marks-is, w.waiting-is, w.set.ensures, w.in_ok-push.ensures.items)
          (visits_new _ _ _ _ _ _ c.loop-place.invariant _
          (omega (arith, c.requires.within c.loop-place.place-index 0 c.loop-place-test.true, c.loop-place.invariant.each))
          (sym c.get.ensures ∙ w.if-not-get.true))
      | else-not-get w ↦ rw (w.marks-is, w.waiting-is)
          (visits_seen _ _ _ _ _ _ c.loop-place.invariant _ (sym c.get.ensures ∙ w.if-not-get.false))
    ])
