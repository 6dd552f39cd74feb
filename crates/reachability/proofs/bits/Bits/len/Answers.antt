use Rattle.reachability.proofs.BitLaws.{length-seen}
use Rattle.reachability.proofs.bits.Bits.len.Goals as goal

pub returns : goal.returns
returns c = length-seen _ c.self.inside.words.items _ c.self.view_is
