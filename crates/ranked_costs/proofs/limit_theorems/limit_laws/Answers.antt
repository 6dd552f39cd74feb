use Rattle.ranked_costs.proofs.Whole.{limits-keep-small}
use Rattle.ranked_costs.proofs.limit_theorems.limit_laws.Goals as goal

pub returns : goal.returns
returns c = record { small = limits-keep-small }
