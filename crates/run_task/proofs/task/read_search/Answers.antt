use Rattle.run_task.proofs.Stops.{sought_stop}
use Rattle.run_task.proofs.task.read_search.Goals as goal

pub returns-in-Err-clause-read : goal.returns-in-Err-clause-read
returns-in-Err-clause-read g c = sought_stop _ c.args.command.now c.in-Err.stop c.in-Err.ensures.read
