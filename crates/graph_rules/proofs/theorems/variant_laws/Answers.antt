use Rattle.graph_rules.proofs.VariantLaws.{governed-governing}
use Rattle.graph_rules.proofs.theorems.variant_laws.Goals as goal

pub returns : goal.returns
returns c = governed-governing
