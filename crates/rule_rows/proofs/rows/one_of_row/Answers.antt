use Rattle.std.proofs.Common.{refl}
use Rattle.rule_rows.proofs.Computing.{computing}
use Rattle.rule_rows.proofs.rows.one_of_row.Goals as goal

pub returns : goal.returns
unfolding computing
returns c = record { both = refl; none = refl; first = refl; second = refl; costs = refl }
