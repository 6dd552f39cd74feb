use Rattle.run_task.proofs.ValidLocks.{has_costs, valid_lock}
use Rattle.run_task.proofs.verdict.read_verdict.Goals as goal

pub returns-clause-lock : goal.returns-clause-lock
returns-clause-lock g c =
    valid_lock _ c.args.path.now c.args.problem.now c.in_ok-lock.lock c.judge_lock-said.result c.in_ok-lock.ensures.read
    c.judge_lock-said.ensures.right

pub returns-clause-costs : goal.returns-clause-costs
returns-clause-costs g c = has_costs c.args.problem.now c.in_ok-lock.lock c.judge_lock-said.result c.judge_lock-said.ensures.right
