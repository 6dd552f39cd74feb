use Rattle.graph_rules.proofs.KeptLaws.{installed-is, external-is}
use Rattle.graph_rules.proofs.theorems.kept_laws.Goals as goal

pub returns : goal.returns
returns c = record { installed = installed-is; external = external-is }
