use Rattle.std.proofs.Common.{refl}
use Rattle.rule_rows.proofs.Computing.{computing}
use Rattle.rule_rows.proofs.broken.broken_directives.Goals as goal

pub returns : goal.returns
unfolding computing
returns c = record {
  root = refl;
  root_at = refl;
  edge = refl;
  edge_at = refl;
  kind = refl;
  kind_at = refl;
  extra = refl;
  extra_at =
      refl;
  constraint = refl;
  constraint_at = refl;
  conflict = refl;
  conflict_at = refl;
  requirement = refl;
  requirement_at =
      refl;
  neither = refl;
  required = refl;
  required_at = refl;
  required_of_a_kept_node = refl;
  both_required = refl;
  one_required = refl;
}
