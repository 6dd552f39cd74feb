use Rattle.cost_terms.proofs.SpreadLaws.{spread-sum}
use Rattle.cost_terms.proofs.choice_theorems.spread_laws.Goals as goal

pub returns : goal.returns
returns c = record { sum = spread-sum }
