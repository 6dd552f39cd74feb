use Rattle.std.proofs.Common.{◌≡◌, drop}
use Rattle.problem.specs.Roots.{wrong_platform}
use Rattle.problem.proofs.platforms.first_wrong.Given as goal

abbrev pub invariant-loop-part : goal.invariant-loop-part
invariant-loop-part l = wrong_platform l.platform (drop l.part-index l.parts) ≡ wrong_platform l.platform l.parts
