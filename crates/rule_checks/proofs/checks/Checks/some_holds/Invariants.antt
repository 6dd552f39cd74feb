use Rattle.std.proofs.Common.{◌≡◌, false, take}
use Rattle.std.specs.List.{list_any}
use Rattle.condition_rules.specs.Holds.{holds}
use Rattle.problem.specs.Problems.{world_of}
use Rattle.rule_checks.proofs.checks.Checks.some_holds.Given as goal

abbrev pub invariant-loop-spec : goal.invariant-loop-spec
invariant-loop-spec l = list_any (λ spec. holds (world_of l.self.problem) spec l.self.graph l.node.name) (take l.spec-index l.specs) ≡ false
