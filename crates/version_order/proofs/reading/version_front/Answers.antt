use Rattle.std.proofs.Common.{◌∙◌, Some, None, true, arith, ap, sym, cond}
use Rattle.std.proofs.lemmas.List.{take_all}
use Rattle.version_order.proofs.VersionLaws.{version_stop, version_more, version_all}
use Rattle.version_order.proofs.reading.version_front.Goals as goal

pub returns-then-not-goes_on-clause-bad : goal.returns-then-not-goes_on-clause-bad
returns-then-not-goes_on-clause-bad c = λ lt.
    version_stop c.args.text.now c.loop-index.index c.loop-index.inside lt c.loop-index.invariant
    (ap (λ b. cond b (Some true) None) (sym c.goes_on.ensures ∙ c.if-not-goes_on.true))

pub loop-index-preserved : goal.loop-index-preserved
loop-index-preserved c =
    version_more c.args.text.now c.loop-index.index c.loop-index.inside (omega arith) c.loop-index.invariant
    (ap (λ b. cond b (Some true) None) (sym c.goes_on.ensures ∙ c.if-not-goes_on.false))

pub returns-clause-good : goal.returns-clause-good
returns-clause-good c = λ _ some.
    version_all c.args.text.now c.loop-index.inside
    (rw (take_all c.loop-index.index c.args.text.now (omega arith)) at c.loop-index.invariant) some
