use Rattle.std.proofs.Common.{refl}
use Rattle.rule_rows.proofs.Computing.{computing}
use Rattle.rule_rows.proofs.naming.named_rows.Goals as goal

pub returns : goal.returns
unfolding computing
returns c = record {
  found = refl;
  replaced = refl;
  again = refl;
  silent = refl;
  kept = refl;
  both = refl;
}
