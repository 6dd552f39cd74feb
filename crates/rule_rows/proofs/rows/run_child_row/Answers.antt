use Rattle.std.proofs.Common.{refl}
use Rattle.rule_rows.proofs.Computing.{computing}
use Rattle.rule_rows.proofs.rows.run_child_row.Goals as goal

pub returns : goal.returns
unfolding computing
returns c = record {
  valid = refl;
  costs = refl;
  newer = refl;
  newer_costs = refl;
  older = refl;
  no_graph = refl;
  no_end =
      refl;
  not_assembled = refl;
  clash = refl;
  left_out = refl;
}
