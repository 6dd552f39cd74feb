use Rattle.std.proofs.Common.{◌≡◌, ◌++◌, drop}
use Rattle.cost_terms.specs.Spread.{plain_terms}
use Rattle.cost_terms.proofs.digits.plain_terms.Given as goal

abbrev pub invariant-loop-choice : goal.invariant-loop-choice
invariant-loop-choice l = l.terms.items ++ plain_terms (drop l.choice-index l.choices) ≡ plain_terms l.choices
