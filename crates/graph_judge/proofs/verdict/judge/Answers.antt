use Rattle.std.proofs.Common.{sym, ◌∙◌}
use Rattle.graph_rules.proofs.VerdictLaws.{valid-verdict}
use Rattle.graph_judge.proofs.verdict.judge.Goals as goal

pub returns : goal.returns
returns c =
    let law = valid-verdict c.args.problem.now c.args.graph.now in
    let e = c.in_ok-said.ensures in
    record { first = e; valid = (λ is. law.1 (sym e ∙ is), λ v. e ∙ law.0 v) }
