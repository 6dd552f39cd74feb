use Rattle.std.proofs.Common.{◌≡◌, max, drop}
use Rattle.cost_terms.specs.Spread.{greatest}
use Rattle.cost_terms.proofs.digits.greatest.Given as goal

abbrev pub invariant-loop-choice : goal.invariant-loop-choice
invariant-loop-choice l = max l.most (greatest (drop l.choice-index l.choices)) ≡ greatest l.choices
