use Rattle.std.proofs.Common.{◌≡◌, ◌∙◌, ap, sym, length, arith}
use Rattle.criteria_totals.proofs.SpellingLaws.{vector-more, within-more, vector-above, vector-end}
use Rattle.criteria_totals.proofs.values.bits_of.Goals as goal

pub returns-then-number-top : goal.returns-then-number-top
returns-then-number-top c =
    let e : length c.tops-tops.result.now ≡ length c.args.vector.now = ap length c.tops-tops.ensures ∙ sym c.requires in
    rw (← c.tops-tops.ensures) (vector-above c.tops-tops.result.now c.args.vector.now c.loop-i.i 0 0 (omega arith) (omega arith)
    c.if-number-top.true c.loop-i.invariant.fits)

pub loop-i-preserved : goal.loop-i-preserved
loop-i-preserved c =
    let e : length c.tops-tops.result.now ≡ length c.args.vector.now = ap length c.tops-tops.ensures ∙ sym c.requires in record {
      so_far = vector-more c.tops-tops.result.now c.args.vector.now c.loop-i.i 0 0 _ _ _ (omega arith) (omega arith)
          c.loop-i.invariant.so_far c.in_ok-push_spelled.ensures;
      fits = within-more c.tops-tops.result.now c.args.vector.now c.loop-i.i 0 0 _ (omega arith) (omega arith) c.if-number-top.false
          c.loop-i.invariant.fits;
    }

pub returns : goal.returns
returns c =
    let e : length c.tops-tops.result.now ≡ length c.args.vector.now = ap length c.tops-tops.ensures ∙ sym c.requires in
    rw (← c.tops-tops.ensures) (vector-end c.tops-tops.result.now c.args.vector.now c.loop-i.i _ (omega arith) (omega arith)
    c.loop-i.invariant.so_far c.loop-i.invariant.fits)
