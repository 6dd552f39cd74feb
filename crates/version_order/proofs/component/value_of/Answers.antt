use Rattle.std.proofs.Common.{get_or, arith}
use Rattle.version_order.proofs.NumberLaws.{digit-range, fits}
use Rattle.version_order.proofs.component.value_of.Goals as goal

pub overflow_mul-value : goal.overflow_mul-value
overflow_mul-value c = omega (arith, fits c.loop-b.value c.loop-b.b-index c.loop-b.invariant.bound (omega arith))

pub overflow_add-value : goal.overflow_add-value
overflow_add-value c =
    omega (
      arith,
      fits c.loop-b.value c.loop-b.b-index c.loop-b.invariant.bound (omega arith),
      digit-range
          (get_or c.args.digits.now c.loop-b.b-index 0) (c.requires.digits c.loop-b.b-index 0 (omega arith)),
    )
