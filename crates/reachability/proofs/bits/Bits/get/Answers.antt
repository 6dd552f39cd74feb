use Rattle.std.proofs.Common.{arith}
use Rattle.reachability.proofs.BitLaws.{word_within, bit_read}
use Rattle.reachability.proofs.bits.Bits.get.Goals as goal

pub index-requires : goal.index-requires
index-requires c = word_within _ _ _ c.self.view_is _ c.requires _ c.self.invariant

pub returns : goal.returns
returns c = bit_read _ c.self.inside.words.items _ c.self.view_is _ c.requires _
    (omega (arith, word_within _ _ _ c.self.view_is _ c.requires _ c.self.invariant)) c.index.ensures
