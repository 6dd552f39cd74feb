use Rattle.std.proofs.Common.{◌≡◌, ◌<◌, length, arith}
use Rattle.log_checker.proofs.Links.{indexed-more}
use Rattle.log_checker.proofs.index.note_rest.Goals as goal

pub loop-place-preserved : goal.loop-place-preserved
loop-place-preserved c =
    let heads : length c.note.new.heads ≡ length c.loop-place.heads = omega arith in
    let within : c.loop-place.place < length c.args.known.now = omega (arith, c.loop-place-test.true) in
    let more = indexed-more c.args.factor c.loop-place.heads c.loop-place.links.items c.note.new.heads c.note.new.links.items
    c.args.known.now
    c.loop-place.place _ within c.get-noted.ensures.value c.loop-place.invariant.0 heads
    c.in_ok-note.ensures.ok c.loop-place.invariant.2 in
    (more.0, omega (arith, heads, c.loop-place.invariant.1), more.1)
