use Rattle.std.proofs.Common.{refl}
use Rattle.rule_rows.proofs.Computing.{computing}
use Rattle.rule_rows.proofs.rows.installed_row.Goals as goal

pub returns : goal.returns
unfolding computing
returns c = record { valid = refl; root = refl; root_costs = refl; costs = refl }
