use Rattle.std.specs.Prelude.{[]}
use Rattle.graph_levels.specs.Stages.{IsSo}
use Rattle.graph_levels.proofs.BitLaws.{totalled, ranked, least}
use Rattle.graph_levels.proofs.stage_theorems.bit_laws.Goals as goal

pub returns : goal.returns
returns g c = record {
  totalled = λ a b s r bits lists. totalled a b (IsSo s) bits lists (λ x. []) (IsSo r);
  ranked = λ a b s. ranked a b (IsSo s);
  least = λ a s r. least a (IsSo s) (IsSo r);
}
