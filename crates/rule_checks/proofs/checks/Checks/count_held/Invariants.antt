use Rattle.std.proofs.Common.{◌≡◌, ◌≤◌, take, count_by}
use Rattle.condition_rules.specs.Holds.{holds}
use Rattle.problem.specs.Problems.{world_of}
use Rattle.rule_checks.proofs.checks.Checks.count_held.Given as goal

abbrev pub invariant-loop-spec : goal.invariant-loop-spec
invariant-loop-spec l = record {
  counted : l.count ≡ count_by (λ spec. holds (world_of l.self.problem) spec l.self.graph l.node.name) (take l.spec-index l.specs);
  small : l.count ≤ l.spec-index;
}
