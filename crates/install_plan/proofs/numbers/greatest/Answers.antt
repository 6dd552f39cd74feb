use Rattle.std.proofs.Common.{inl, inr}
use Rattle.std.proofs.lemmas.List.{take_all}
use Rattle.install_plan.proofs.Greatest.{top_more}
use Rattle.install_plan.proofs.numbers.greatest.Goals as goal
use Rattle.install_plan.proofs.numbers.greatest.Goals.{then-numbers-place, else-numbers-place}

pub loop-place-preserved : goal.loop-place-preserved
loop-place-preserved c =
    let more = top_more c.args.numbers.now c.args.places.now c.loop-place.place-index c.loop-place.greatest c.if-numbers-place.greatest
    c.loop-place-test.true c.loop-place.invariant.above c.loop-place.invariant.there (elim c.if-numbers-place.branch [
      | then-numbers-place w ↦ inl (w.if-numbers-place.true, w.greatest-is)
      | else-numbers-place w ↦ inr (w.if-numbers-place.false, w.greatest-is)
    ]) in
    record { above = more.0; there = more.1 }

pub returns-clause-above : goal.returns-clause-above
returns-clause-above c = rw (take_all c.loop-place.place-index c.args.places.now c.loop-place-test.false) at c.loop-place.invariant.above
