use Rattle.std.proofs.Common.{refl}
use Rattle.rule_rows.proofs.Computing.{computing}
use Rattle.rule_rows.proofs.rows.external_row.Goals as goal

pub returns : goal.returns
unfolding computing
returns c = record { valid = refl; costs = refl }
