use Rattle.run_task.proofs.OneRoot.{not_too_many, posed_alone}
use Rattle.run_task.proofs.alone.alone_input.Goals as goal

pub returns-in-Ok-clause-posed : goal.returns-in-Ok-clause-posed
returns-in-Ok-clause-posed c =
    posed_alone c.alone_laws.ensures c.args.input.now (record { problem = c.in_ok-problem.problem; closure = c.in-Ok.closure })
    c.args.place c.requires.posed c.in_ok-problem.ensures c.in-Ok.ensures.names
