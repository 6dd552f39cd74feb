use Rattle.std.proofs.Common.{sym, ◌∙◌, subst}
use Rattle.explain_failure.specs.Uses.{IsRising}
use Rattle.explain_failure.proofs.Numbers.{rising-with}
use Rattle.reason_minimum.proofs.Placing.{joined-more}
use Rattle.reason_minimum.proofs.numbers.joined.Goals as goal

pub loop-number-preserved : goal.loop-number-preserved
loop-number-preserved c = (
  subst IsRising (sym c.in_ok-put.ensures) (rising-with c.loop-number.all.items _ c.loop-number.invariant.0),
  λ n.
      joined-more c.loop-number.all.items c.put.new.numbers.items c.args.more.now c.loop-number.number-index _ n c.loop-number-test.true
      c.in_ok-put.ensures
      ∙ c.loop-number.invariant.1 n,
)
