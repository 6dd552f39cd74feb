use Rattle.std.proofs.Common.{arith}
use Rattle.reachability.proofs.BitLaws.{word_within, bit_written}
use Rattle.reachability.proofs.bits.Bits.set.Goals as goal

pub index_mut-requires : goal.index_mut-requires
index_mut-requires c = word_within _ _ _ c.self.view_is _ c.requires _ c.self.invariant

pub returns : goal.returns
returns c = bit_written _ c.self.inside.words.items _ c.self.view_is _ c.requires _
    (omega (arith, word_within _ _ _ c.self.view_is _ c.requires _ c.self.invariant)) c.index_mut.ensures.value
