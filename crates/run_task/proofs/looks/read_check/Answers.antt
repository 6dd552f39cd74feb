use Rattle.outside_desk.proofs.Tellings.{held_still}
use Rattle.run_answers.proofs.ReadOnly.{only_more}
use Rattle.run_task.proofs.Paths.{of_certificate}
use Rattle.run_task.proofs.SeenTasks.{best_lock, checked_both}
use Rattle.run_task.proofs.looks.read_check.Goals as goal

pub returns-clause-read : goal.returns-clause-read
returns-clause-read g c =
    checked_both _ _ c.args.lock.now c.args.cert.now c.args.input.now.problem c.in_ok-numbers.numbers _ c.read_acceptance.result
    c.read_acceptance.ensures.only_reads.same c.as_slice.ensures c.in_ok-numbers.ensures.read c.read_acceptance.ensures.read

pub returns-clause-only_reads : goal.returns-clause-only_reads
returns-clause-only_reads g c = only_more c.in_ok-numbers.ensures.only_reads c.read_acceptance.ensures.only_reads

pub returns-clause-shown : goal.returns-clause-shown
returns-clause-shown g c =
    best_lock _ _ c.args.lock.now c.args.input.now.problem c.in_ok-numbers.numbers _ c.read_acceptance.result
    c.read_acceptance.ensures.only_reads.same
    c.as_slice.ensures c.in_ok-numbers.ensures.lock c.read_acceptance.ensures.shown

pub returns-clause-path : goal.returns-clause-path
returns-clause-path g c =
    of_certificate _ c.args.lock.now c.args.cert.now c.args.input.now.problem c.in_ok-numbers.numbers c.read_acceptance.result
    (held_still _ _ _ c.read_acceptance.ensures.only_reads.same c.in_ok-numbers.ensures.read) c.read_acceptance.ensures.path
