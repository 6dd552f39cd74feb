use Rattle.std.proofs.Common.{refl}
use Rattle.rule_rows.proofs.Computing.{computing}
use Rattle.rule_rows.proofs.rows.realistic_row.Goals as goal

pub returns : goal.returns
unfolding computing
returns c = record { graph = refl; valid = refl; assembled = refl; kept = refl; closed = refl; costs = refl }
