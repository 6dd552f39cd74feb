use Rattle.std.proofs.Common.{refl}
use Rattle.reachability.specs.Paths.{spread, reached, reaches, joined}
use Rattle.reachability.proofs.theorems.worked_paths.Goals as goal

pub returns : goal.returns
unfolding spread reached reaches joined
returns c = record { over = refl; back = refl; itself = refl; level = refl; diamond = refl; around = refl; out = refl; members = refl }
