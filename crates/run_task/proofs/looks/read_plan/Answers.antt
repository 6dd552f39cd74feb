use Rattle.run_task.proofs.Stops.{planned_stop}
use Rattle.run_task.proofs.looks.read_plan.Goals as goal

pub returns-in-Err-clause-read : goal.returns-in-Err-clause-read
returns-in-Err-clause-read g c = planned_stop _ c.args.lock.now c.args.input.now.problem c.in-Err.stop c.in-Err.ensures.read
