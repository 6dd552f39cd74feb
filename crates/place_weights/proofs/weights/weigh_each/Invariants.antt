use Rattle.std.proofs.Common.{◌≡◌, ◌++◌, map, drop}
use Rattle.graph_rules.specs.Weights.{place_in}
use Rattle.place_weights.proofs.weights.weigh_each.Given as goal

abbrev pub invariant-loop-choice : goal.invariant-loop-choice
invariant-loop-choice g l =
    l.weights.items ++ map (λ c. (place_in l.places c.0, c.1)) (drop l.choice-index l.choices)
    ≡ map (λ c. (place_in l.places c.0, c.1)) l.choices
