use Rattle.graph_levels.specs.Stages.{IsSo}
use Rattle.graph_levels.proofs.Growing.{added, joined, decodes}
use Rattle.graph_levels.proofs.stage_theorems.stage_laws.Goals as goal

pub returns : goal.returns
returns g c = record {
  added = λ a b s m r q. added a b (IsSo s) (IsSo m) (IsSo r) (IsSo q);
  joined = λ a b d s m n r q p. joined a b d (IsSo s) (IsSo m) (IsSo n) (IsSo r) (IsSo q) (IsSo p);
  decodes = λ a s r decode f. decodes a (IsSo s) (IsSo r) decode f;
}
