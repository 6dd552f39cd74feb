use Rattle.run_task.proofs.Once.{one_posed}
use Rattle.run_task.proofs.Weaker.{any_posed, none_posed}
use Rattle.run_task.proofs.posed_tasks.task_laws.Goals as goal

pub returns-clause-one : goal.returns-clause-one
returns-clause-one c =
    one_posed c.input_laws.ensures.one c.input_laws.ensures.one_query c.verdict_laws.ensures.one c.verdict_laws.ensures.one_graph

pub returns-clause-any : goal.returns-clause-any
returns-clause-any c = any_posed c.certificate_laws.ensures

pub returns-clause-none : goal.returns-clause-none
returns-clause-none c = none_posed
