use Rattle.run_task.proofs.Stops.{compared_stop}
use Rattle.run_task.proofs.SeenTasks.{compares}
use Rattle.run_task.proofs.looks.read_comparison.Goals as goal

pub returns-in-Ok-clause-seen : goal.returns-in-Ok-clause-seen
returns-in-Ok-clause-seen g c = compares _ c.args.lock.now c.args.input c.in-Ok.numbers c.in-Ok.ensures.lock

pub returns-in-Err-clause-read : goal.returns-in-Err-clause-read
returns-in-Err-clause-read g c = compared_stop _ c.args.lock.now c.args.input c.in-Err.stop c.in-Err.ensures.read
