use Rattle.cost_terms.proofs.Ranges.{costs-below}
use Rattle.cost_terms.proofs.cost_theorems.range_laws.Goals as goal

pub returns : goal.returns
returns c = record { below = costs-below }
