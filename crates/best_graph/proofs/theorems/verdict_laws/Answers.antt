use Rattle.best_graph.proofs.Shown.{values-are, least-optimal, no-graph, certified, refuted, best-certified, nothing-refuted}
use Rattle.best_graph.proofs.theorems.verdict_laws.Goals as goal

pub returns : goal.returns
returns c = record {
  values = λ problem e graph values v encoded meets same spelled. values-are problem e encoded graph values v meets same spelled;
  least = λ problem e graph values encoded formed ok spelled least. least-optimal problem e encoded graph values formed ok spelled least;
  none = no-graph;
  certified = λ problem e graph values log encoded ordered formed ok spelled certificate.
      certified problem e encoded ordered log graph values formed ok spelled certificate;
  refuted = λ problem log decodes ordered refutation. refuted problem decodes ordered log refutation;
  best = best-certified;
  nothing = nothing-refuted;
}
