use Rattle.std.proofs.Common.{◌≡◌, drop}
use Rattle.graph_rules.specs.Verdict.{first_broken}
use Rattle.graph_judge.specs.Judging.{asked}
use Rattle.graph_judge.proofs.judging.Judge.first_broken.Given as goal

abbrev pub invariant-loop-rule : goal.invariant-loop-rule
invariant-loop-rule l = first_broken (asked l.self) (drop l.rule-index l.rules) l.self.problem l.self.graph
    ≡ first_broken (asked l.self) l.rules l.self.problem l.self.graph
