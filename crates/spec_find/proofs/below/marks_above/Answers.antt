use Rattle.std.proofs.Common.{◌≡◌, length, arith}
use Rattle.spec_find.proofs.MarkLaws.{longer_within, marked_above}
use Rattle.spec_find.proofs.below.marks_above.Goals as goal

pub reached-requires-clause-within : goal.reached-requires-clause-within
reached-requires-clause-within c = rw (c.as_slice.ensures.value, c.in_ok-push.ensures.items)
    (longer_within c.args.parents.now.items c.args.starts c.requires.within c.requires.starts)

pub returns-clause-marks : goal.returns-clause-marks
returns-clause-marks c =
    let place : c.len-place.result ≡ length c.args.parents.now.items = omega (arith, c.len-place.ensures, c.args.parents.now.ok.0) in
    marked_above c.args.parents.now.items c.args.starts c.requires.within c.requires.starts c.in_ok-marks.marks
    (rw (c.as_slice.ensures.value, c.in_ok-push.ensures.items, place) at c.in_ok-marks.ensures)
