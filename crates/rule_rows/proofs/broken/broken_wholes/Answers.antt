use Rattle.std.proofs.Common.{refl}
use Rattle.rule_rows.proofs.Computing.{computing}
use Rattle.rule_rows.proofs.broken.broken_wholes.Goals as goal

pub returns : goal.returns
unfolding computing
returns c = record {
  provider = refl;
  provider_at = refl;
  used = refl;
  unused = refl;
  unused_at = refl;
  apart = refl;
  together = refl;
  together_at = refl;
  both_of_one = refl;
  cycle = refl;
  cycle_at =
      refl;
  unreachable = refl;
  unreachable_at = refl;
  graphs = refl;
}
