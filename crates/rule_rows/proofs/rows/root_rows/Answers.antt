use Rattle.std.proofs.Common.{refl}
use Rattle.rule_rows.proofs.Computing.{computing}
use Rattle.rule_rows.proofs.rows.root_rows.Goals as goal

pub returns : goal.returns
unfolding computing
returns c = record { right = refl; unknown = refl; is_virtual = refl; platform = refl }
