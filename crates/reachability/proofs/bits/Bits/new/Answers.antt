use Rattle.std.proofs.Common.{◌+◌, ◌/◌, arith}
use Rattle.reachability.proofs.BitLaws.{no_bits}
use Rattle.reachability.proofs.bits.Bits.new.Goals as goal

pub returns : goal.returns
returns c = rw (c.in_ok-vec.ensures.items_if_clones_equal (λ y e. e)) (no_bits c.args.len (c.args.len / 64 + 1) (omega arith))
