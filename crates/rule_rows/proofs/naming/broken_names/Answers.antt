use Rattle.std.proofs.Common.{refl}
use Rattle.rule_rows.proofs.Computing.{computing}
use Rattle.rule_rows.proofs.naming.broken_names.Goals as goal

pub returns : goal.returns
unfolding computing
returns c = record {
  other_provider = refl;
  other_provider_at = refl;
  passed_over = refl;
  not_recorded = refl;
  provider = refl;
  provider_at = refl;
  unused = refl;
  unnamed = refl;
  unnamed_at = refl;
  not_asked = refl;
  no_virtual = refl;
}
