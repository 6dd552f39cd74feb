use Rattle.std.proofs.Common.{sym, ◌∙◌}
use Rattle.problem.specs.Demands.{demands_at}
use Rattle.graph_judge.proofs.AskedLaws.{valid_for-verdict}
use Rattle.graph_judge.proofs.verdict.judge_for.Goals as goal

pub returns : goal.returns
returns c =
    let law = valid_for-verdict c.args.problem.now c.args.graph.now c.nodes-nodes.ensures.graph
    (demands_at c.args.problem.now c.args.ids.now) in
    let e = c.in_ok-said.ensures in
    record { first = e; valid = (λ is. law.1 (sym e ∙ is), λ v. e ∙ law.0 v) }
