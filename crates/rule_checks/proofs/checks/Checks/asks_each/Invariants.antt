use Rattle.std.proofs.Common.{◌≡◌, take, true}
use Rattle.std.specs.List.{list_all}
use Rattle.graph_rules.specs.Built.{is_asked_virtual}
use Rattle.rule_checks.proofs.checks.Checks.asks_each.Given as goal

abbrev pub invariant-loop-name : goal.invariant-loop-name
invariant-loop-name l = list_all (is_asked_virtual l.self.problem l.self.graph l.node l.child) (take l.name-index l.virtuals) ≡ true
