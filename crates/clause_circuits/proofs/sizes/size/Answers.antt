use Rattle.std.proofs.Common.{◌-◌, arith}
use Rattle.clause_circuits.proofs.AddLoops.{size-start, size-more}
use Rattle.clause_circuits.proofs.sizes.size.Goals as goal

pub loop-bits-init : goal.loop-bits-init
loop-bits-init c = omega (arith, size-start c.args.number)

pub loop-bits-preserved : goal.loop-bits-preserved
loop-bits-preserved c = size-more (63 - c.loop-bits.bits) _ c.loop-bits.bits c.loop-bits.left _ (omega arith) (λ e. absurd (omega arith))
    c.loop-bits.invariant
