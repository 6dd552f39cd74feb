use Rattle.std.proofs.Common.{◌≡◌, take}
use Rattle.std.specs.List.{filter}
use Rattle.graph_rules.specs.Built.{asks, asked_kinds}
use Rattle.rule_checks.proofs.checks.Checks.asked_kinds.Given as goal

abbrev pub invariant-loop-row : goal.invariant-loop-row
invariant-loop-row l = l.kinds ≡ asked_kinds (filter (asks l.self.problem l.self.graph l.node l.child) (take l.row-index l.rows))
