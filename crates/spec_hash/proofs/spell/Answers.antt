use Rattle.std.proofs.Common.{arith}
use Rattle.spec_hash.proofs.Letters.{base32_from_reads}
use Rattle.spec_hash.proofs.spell.Goals as goal

pub returns : goal.returns
returns c = base32_from_reads c.args.bytes.now c.loop-k.out c.loop-k.invariant.room (λ k h. c.loop-k.invariant.told k (omega arith))
