use Rattle.std.proofs.Common.{◌≡◌, false, take}
use Rattle.std.specs.List.{list_any}
use Rattle.graph_rules.specs.Whole.{needs}
use Rattle.rule_checks.proofs.checks.Checks.some_needs.Given as goal

abbrev pub invariant-loop-spec : goal.invariant-loop-spec
invariant-loop-spec l = list_any (needs l.self.graph l.node) (take l.spec-index l.specs) ≡ false
