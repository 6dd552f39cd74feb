use Rattle.std.proofs.Common.{◌≡◌, ◌++◌, map, drop}
use Rattle.cost_vector.specs.Ranks.{weight_among}
use Rattle.cost_vector.proofs.choices.weigh.Given as goal

abbrev pub invariant-loop-choice : goal.invariant-loop-choice
invariant-loop-choice g l =
    l.weights.items ++ map (λ c. (weight_among l.table c.0, c.1)) (drop l.choice-index l.choices)
    ≡ map (λ c. (weight_among l.table c.0, c.1)) l.choices
