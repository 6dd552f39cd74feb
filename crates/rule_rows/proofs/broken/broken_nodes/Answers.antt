use Rattle.std.proofs.Common.{refl}
use Rattle.rule_rows.proofs.Computing.{computing}
use Rattle.rule_rows.proofs.broken.broken_nodes.Goals as goal

pub returns : goal.returns
unfolding computing
returns c = record {
  none = refl;
  buildable = refl;
  buildable_at = refl;
  version = refl;
  version_at = refl;
  variant = refl;
  variant_at =
      refl;
  order = refl;
  value = refl;
  compiler = refl;
  compiler_at = refl;
  no_compiler = refl;
  machine = refl;
  machine_at = refl;
  kept =
      refl;
  kept_at = refl;
}
