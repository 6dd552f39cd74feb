use Rattle.ranked_costs.proofs.WalkLaws.{each-name}
use Rattle.ranked_costs.proofs.order_theorems.order_laws.Goals as goal

pub returns : goal.returns
returns c = record { each = each-name }
