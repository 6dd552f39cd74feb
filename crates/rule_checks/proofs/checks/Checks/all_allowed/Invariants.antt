use Rattle.std.proofs.Common.{◌≡◌, take, true}
use Rattle.std.specs.List.{list_all}
use Rattle.graph_rules.specs.Built.{is_allowed}
use Rattle.rule_checks.proofs.checks.Checks.all_allowed.Given as goal

abbrev pub invariant-loop-variant : goal.invariant-loop-variant
invariant-loop-variant l = list_all (is_allowed l.self.problem l.self.graph l.node) (take l.variant-index l.variants) ≡ true
