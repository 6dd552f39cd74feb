use Rattle.std.proofs.Common.{◌≡◌, take, map}
use Rattle.std.specs.List.{filter}
use Rattle.problem.specs.Problems.{applies}
use Rattle.rule_checks.proofs.checks.Checks.governed_names.Given as goal

abbrev pub invariant-loop-row : goal.invariant-loop-row
invariant-loop-row l = l.names.items ≡ map (λ row. row.name)
    (filter (λ row. applies l.self.problem l.self.graph row.when l.node) (take l.row-index l.rows))
