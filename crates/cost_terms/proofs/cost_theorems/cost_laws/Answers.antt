use Rattle.cost_terms.proofs.Whole.{vector-is, held-said}
use Rattle.cost_terms.proofs.cost_theorems.cost_laws.Goals as goal

pub returns : goal.returns
returns c = record { vector = vector-is; held = held-said }
