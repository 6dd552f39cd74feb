use Rattle.reachability.specs.Paths.{HasArc}
use Rattle.reachability.proofs.PathLaws.{acyclic_by_parts}
use Rattle.reachability.proofs.PartLaws.{joined_decides, members_alike, rank_rises, rank_below}
use Rattle.reachability.proofs.theorems.component_laws.Goals as goal

pub returns : goal.returns
returns g c = record {
  joined = λ same exact. joined_decides same exact;
  acyclic = λ possible chosen inside number rises. acyclic_by_parts (HasArc possible) (HasArc chosen) inside number rises;
  rises = λ same exact possible chosen acyclic. rank_rises same exact possible chosen acyclic;
  below = λ same exact possible chosen acyclic. rank_below same exact possible chosen acyclic;
  alike = λ same exact. members_alike same exact;
}
