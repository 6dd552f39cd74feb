use Rattle.graph_levels.specs.Stages.{IsSo}
use Rattle.graph_levels.proofs.Adapters.{asserted, defined, demanded, varied, begun}
use Rattle.graph_levels.proofs.stage_theorems.call_laws.Goals as goal

pub returns : goal.returns
returns g c = record {
  asserted = λ a b s r. asserted a b (IsSo s) (IsSo r);
  defined = λ a b s r. defined a b (IsSo s) (IsSo r);
  demanded = λ a b s r fits ds f keeps. demanded a b (IsSo s) (IsSo r) fits ds f keeps;
  varied = λ a b s r. varied a b (IsSo s) (IsSo r);
  begun = λ a b s r. begun a b (IsSo s) (IsSo r);
}
