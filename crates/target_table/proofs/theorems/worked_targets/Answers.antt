use Rattle.std.proofs.Common.{refl}
use Rattle.reachability.specs.Paths.{spread, reached, reaches}
use Rattle.target_table.proofs.theorems.worked_targets.Goals as goal

pub returns : goal.returns
unfolding spread reached reaches
returns c = record {
  levels = refl;
  up = refl;
  down = refl;
  itself = refl;
  unknown_itself = refl;
  above_high = refl;
  between = refl;
  no_ends = refl;
  place = refl;
  no_place = refl;
  diamond = refl;
  over = refl;
  beside = refl;
  own_parent = refl;
  around = refl;
  twice = refl;
  behind_cycle = refl;
  before_cycle = refl;
  later_parent = refl;
}
