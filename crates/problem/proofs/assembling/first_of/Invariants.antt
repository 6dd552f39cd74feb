use Rattle.std.proofs.Common.{◌≡◌, drop}
use Rattle.problem.specs.Roots.{first_fault}
use Rattle.problem.proofs.assembling.first_of.Given as goal

abbrev pub invariant-loop-spec : goal.invariant-loop-spec
invariant-loop-spec l = first_fault l.problem (drop l.spec-index l.roots) ≡ first_fault l.problem l.roots
