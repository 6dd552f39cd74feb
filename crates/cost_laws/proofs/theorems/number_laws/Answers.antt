use Rattle.std.proofs.Common.{refl}
use Rattle.graph_rules.specs.Costs.{vector}
use Rattle.cost_laws.proofs.Numbers.{first-is, least-next}
use Rattle.cost_laws.proofs.theorems.number_laws.Goals as goal

pub returns : goal.returns
returns c = record {
  first = first-is;
  fewest_deprecated = λ problem best other right optimal valid.
      rw (← first-is problem best, ← first-is problem other)
      (least-next (vector problem other) (vector problem best) 0 (optimal.least other right valid) refl);
  least = λ problem best other k right optimal valid same.
      least-next (vector problem other) (vector problem best) k (optimal.least other right valid) same;
}
