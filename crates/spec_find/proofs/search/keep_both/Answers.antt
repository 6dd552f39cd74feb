use Rattle.std.proofs.Common.{◌<◌, ◌∙◌, sym, length, arith}
use Rattle.spec_find.proofs.FoundLaws.{both_kept, both_taken, both_all}
use Rattle.spec_find.proofs.search.keep_both.Goals as goal
use Rattle.spec_find.proofs.search.keep_both.Goals.{then-not-get, else-not-get}

pub loop-place-preserved : goal.loop-place-preserved
loop-place-preserved c =
    let lt : c.loop-place.place < length c.loop-place.marks.items =
    omega (arith, c.loop-place.invariant.each, c.loop-place-test.true, c.len-place-end.ensures, c.args.marks.now.ok.0) in
    elim c.if-not-get.branch [
      | then-not-get w ↦ rw (w.marks-is, w.clear.ensures) (both_taken c.args.marks.now.items c.args.others.now c.loop-place.marks.items
          c.loop-place.place c.loop-place.invariant lt (sym c.get.ensures ∙ w.if-not-get.true))
      | else-not-get w ↦ rw w.marks-is (both_kept c.args.marks.now.items c.args.others.now c.loop-place.marks.items
          c.loop-place.place c.loop-place.invariant (sym c.get.ensures ∙ w.if-not-get.false))
    ]

pub returns-clause-both : goal.returns-clause-both
returns-clause-both c = both_all c.args.marks.now.items c.args.others.now c.loop-place.marks.items c.loop-place.place c.loop-place.invariant
    (omega (arith, c.loop-place-test.false, c.len-place-end.ensures, c.args.marks.now.ok.0))
