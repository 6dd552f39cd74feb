use Rattle.std.proofs.Common.{arith}
use Rattle.clause_watch.proofs.Undone.{length-upto, upto-stays, upto-goes}
use Rattle.clause_watch.proofs.trail.Trail.len_upto.Goals as goal

pub loop-low-init : goal.loop-low-init
loop-low-init c =
    let h = length-upto c.args.level c.args.self.now.placed in
    record { low = omega arith; high = omega (arith, h, c.len-high.ensures); within = omega (arith, c.len-high.ensures) }

pub at-requires : goal.at-requires
at-requires c = omega (arith, c.loop-low.invariant.within)

pub loop-low-preserved-then-at-level : goal.loop-low-preserved-then-at-level
loop-low-preserved-then-at-level c =
    let i = c.loop-low.invariant in
    let h = upto-stays 0 c.args.level c.args.self.now.placed _ c.at.result c.depth.ensures.orderly.levels c.at.ensures
    (omega (arith, c.if-at-level.true)) in
    record { low = omega (arith, h); high = i.high; within = i.within }

pub loop-low-preserved : goal.loop-low-preserved
loop-low-preserved c =
    let i = c.loop-low.invariant in
    let h = upto-goes 0 c.args.level c.args.self.now.placed _ c.at.result c.depth.ensures.orderly.levels c.at.ensures
    (omega (arith, c.if-at-level.false)) in
    record { low = i.low; high = omega (arith, h); within = omega (arith, i.within) }

pub returns : goal.returns
returns c = omega (arith, c.loop-low.invariant.low, c.loop-low.invariant.high)
