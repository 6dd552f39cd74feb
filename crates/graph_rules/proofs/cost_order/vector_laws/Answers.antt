use Rattle.graph_rules.proofs.BestLaws.{one_vector, budget_vector}
use Rattle.graph_rules.proofs.cost_order.vector_laws.Goals as goal

pub returns : goal.returns
returns c = record { one_vector = one_vector; budget = budget_vector }
