use Rattle.graph_levels.proofs.RuleLaws.{starts-chosen, sound-keeps, keeps-sound}
use Rattle.graph_levels.proofs.PathLaws.{paths-say}
use Rattle.graph_levels.proofs.level_theorems.level_laws.Goals as goal

pub returns : goal.returns
returns c = record {
  starts = λ problem t ls targets first v g table s graph. starts-chosen problem t table ls targets first g v s.0 s.1 graph;
  sound = λ problem t ls targets first v g table s graph. (
    sound-keeps problem t table ls targets first g v s.0 s.1 graph,
    keeps-sound problem t table ls targets first g v s.0 s.1 graph,
  );
  paths = λ problem t ls targets first v g paths table s graph. paths-say problem t table ls targets first g v s.0 s.1 graph paths;
}
