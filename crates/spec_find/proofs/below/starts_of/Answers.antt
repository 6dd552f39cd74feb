use Rattle.std.proofs.Common.{◌<◌, ◌∙◌, [], sym, length, arith}
use Rattle.std.proofs.lemmas.List.{get_or_read}
use Rattle.spec_find.proofs.OrderLaws.{got_from}
use Rattle.spec_find.proofs.MarkLaws.{starts_more, starts_same}
use Rattle.spec_find.proofs.below.starts_of.Goals as goal
use Rattle.spec_find.proofs.below.starts_of.Goals.{then-branch+in_ok-add_all, else-branch}

pub loop-place-preserved : goal.loop-place-preserved
loop-place-preserved c =
    let got = got_from c.args.records.now c.loop-place.place c.index-records-place.result c.index-records-place.result
    c.loop-place-test.true
    (sym c.index-records-place.is) in
    let within : c.loop-place.place < length c.args.parents.now = omega (arith, c.loop-place-test.true, c.requires) in
    elim c.if-branch.branch [
      | then-branch+in_ok-add_all w ↦
          let read = w.as_slice.ensures ∙ get_or_read c.args.parents.now c.loop-place.place _ within w.index-parents-place.is [] in
          rw (w.starts-is, w.in_ok-add_all.ensures, read)
          (starts_more c.args.world.now c.args.records.now c.args.parents.now c.args.part.now c.args.name.now c.loop-place.place
          c.loop-place.starts c.index-records-place.result c.loop-place.invariant got (sym c.in_ok-record_suits.ensures ∙ w.if-branch.true))
      | else-branch w ↦ rw w.starts-is
          (starts_same c.args.world.now c.args.records.now c.args.parents.now c.args.part.now c.args.name.now c.loop-place.place
          c.loop-place.starts c.index-records-place.result c.loop-place.invariant got (sym c.in_ok-record_suits.ensures
          ∙ w.if-branch.false))
    ]
