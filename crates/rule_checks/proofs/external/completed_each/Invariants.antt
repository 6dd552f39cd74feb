use Rattle.std.proofs.Common.{◌≡◌, take, map}
use Rattle.graph_rules.specs.Kept.{completed}
use Rattle.rule_checks.proofs.external.completed_each.Given as goal

abbrev pub invariant-loop-name : goal.invariant-loop-name
invariant-loop-name l = l.variants ≡ map (λ v. (v, completed l.written l.rows v)) (take l.name-index l.names)
