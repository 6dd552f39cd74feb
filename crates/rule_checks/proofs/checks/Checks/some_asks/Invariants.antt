use Rattle.std.proofs.Common.{◌≡◌, ◌&&◌, take, false}
use Rattle.std.specs.List.{list_any}
use Rattle.graph_rules.specs.Built.{asks, names_virtual}
use Rattle.rule_checks.proofs.checks.Checks.some_asks.Given as goal

abbrev pub invariant-loop-row : goal.invariant-loop-row
invariant-loop-row l = list_any (λ row. names_virtual l.self.problem l.name row.1.now && asks l.self.problem l.self.graph l.node l.child row.1.now)
    (take l.row-index l.rows) ≡ false
