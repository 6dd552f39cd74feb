use Rattle.std.proofs.Common.{◌≡◌, take, true}
use Rattle.std.specs.List.{list_all}
use Rattle.graph_rules.specs.Built.{is_asked}
use Rattle.rule_checks.proofs.checks.Checks.all_asked.Given as goal

abbrev pub invariant-loop-edge : goal.invariant-loop-edge
invariant-loop-edge l = list_all (is_asked l.self.problem l.self.graph l.node) (take l.edge-index l.edges) ≡ true
