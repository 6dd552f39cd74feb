use Rattle.run_output.proofs.Puts.{readable}
use Rattle.run_output.proofs.found.write_found.Goals as goal

pub returns-clause-read : goal.returns-clause-read
returns-clause-read g c = readable c.args.problem.now c.args.answer.now _ c.in_ok-put_answer.ensures.read
