use Rattle.std.proofs.Common.{refl}
use Rattle.rule_rows.proofs.Computing.{computing}
use Rattle.rule_rows.proofs.naming.recorded_rows.Goals as goal

pub returns : goal.returns
unfolding computing
returns c = record {
  graph = refl;
  silent = refl;
  silent_costs = refl;
  naming = refl;
  naming_costs = refl;
  over_silent = refl;
  over_naming = refl;
  over_costs = refl;
  beside_silent = refl;
  beside_costs = refl;
  built = refl;
  built_costs = refl;
}
