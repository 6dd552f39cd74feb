use Rattle.run_task.proofs.ValidLocks.{right}
use Rattle.run_task.proofs.verdict.judge_lock.Goals as goal

pub returns-clause-right : goal.returns-clause-right
returns-clause-right c =
    right c.rule_laws.ensures.valid c.args.problem.now c.args.lock.now c.judged.result c.whole.ensures c.judged.ensures.read
