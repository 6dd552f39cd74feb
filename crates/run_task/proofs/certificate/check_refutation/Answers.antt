use Rattle.run_task.proofs.Shown.{none_read, none_shown}
use Rattle.run_task.proofs.certificate.check_refutation.Goals as goal

pub returns-clause-read : goal.returns-clause-read
returns-clause-read g c =
    none_read c.args.path.now c.args._problem.now _ c.check_log.result c.args.rules.now.clauses c.requires.ruled.clauses
    c.check_log.ensures.read

pub returns-clause-shown : goal.returns-clause-shown
returns-clause-shown g c =
    none_shown c.args.path.now c.args._problem.now _ c.check_log.result c.args.rules.now.clauses c.requires.ruled.clauses
    c.check_log.ensures.read
    c.text_laws.ensures.accepted c.verdict_laws.ensures.refuted c.requires.decodes c.check_log.ensures.in_order
