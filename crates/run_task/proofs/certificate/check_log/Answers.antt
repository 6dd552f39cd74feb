use Rattle.run_task.proofs.certificate.check_log.Goals as goal

pub returns-clause-read : goal.returns-clause-read
returns-clause-read g c = c.check_text.ensures.read _ c.in_ok-checker.ensures.begun
