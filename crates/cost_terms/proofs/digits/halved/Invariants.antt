use Rattle.std.proofs.Common.{◌≡◌, ◌++◌, drop}
use Rattle.cost_terms.specs.Spread.{weighed_choices, half_of}
use Rattle.cost_terms.proofs.digits.halved.Given as goal

abbrev pub invariant-loop-choice : goal.invariant-loop-choice
invariant-loop-choice l = l.halves.items ++ weighed_choices half_of (drop l.choice-index l.choices) ≡ weighed_choices half_of l.choices
