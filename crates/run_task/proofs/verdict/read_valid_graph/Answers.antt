use Rattle.run_task.proofs.Acyclic.{right_acyclic}
use Rattle.run_task.proofs.ValidLocks.{graph_read, graph_stopped}
use Rattle.run_task.proofs.verdict.read_valid_graph.Goals as goal

pub returns-in-Ok-clause-read : goal.returns-in-Ok-clause-read
returns-in-Ok-clause-read g c =
    graph_read _ c.args.path.now c.args.problem.now c.in_ok-lock.lock _ c.in_ok-lock.ensures.read c.in-Ok.ensures.read

pub returns-in-Ok-clause-acyclic : goal.returns-in-Ok-clause-acyclic
returns-in-Ok-clause-acyclic g c = right_acyclic c.args.problem.now c.in_ok-lock.lock _ c.in-Ok.ensures.right

pub returns-in-Err-clause-read : goal.returns-in-Err-clause-read
returns-in-Err-clause-read g c =
    graph_stopped _ c.args.path.now c.args.problem.now c.in_ok-lock.lock c.in-Err.stop c.in_ok-lock.ensures.read c.in-Err.ensures.read
