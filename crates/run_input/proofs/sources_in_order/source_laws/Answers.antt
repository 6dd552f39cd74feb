use Rattle.run_input.proofs.InOrder.{in_order}
use Rattle.run_input.proofs.sources_in_order.source_laws.Goals as goal

pub returns : goal.returns
returns c = record { in_order = in_order }
