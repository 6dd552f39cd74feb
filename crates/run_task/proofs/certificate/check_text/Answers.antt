use Rattle.std.proofs.Common.{true, false, refl}
use Rattle.run_task.proofs.Next.{text_said, text_long, text_stop, all_by, all_but}
use Rattle.run_task.proofs.certificate.check_text.Goals as goal

pub returns-in-Ok-true-clause-read : goal.returns-in-Ok-true-clause-read
returns-in-Ok-true-clause-read g c = λ s after.
    text_said c.args.path.now s c.args.checker.now c.take_all.new.checker after _ c.verdict.result
    (all_by _ c.args.path.now c.args.checker.now c.take_all.new.checker _ true c.in-Ok-true.field-0-test c.in-Ok-true.ensures.taken)
    c.verdict.ensures.read

pub returns-in-Ok-false-clause-read : goal.returns-in-Ok-false-clause-read
returns-in-Ok-false-clause-read g c = λ s after.
    text_long c.args.path.now s c.args.checker.now c.take_all.new.checker after _
    (all_by _ c.args.path.now c.args.checker.now c.take_all.new.checker _ false c.in-Ok-false.field-0-test c.in-Ok-false.ensures.taken)

pub returns-clause-read : goal.returns-clause-read
returns-clause-read g c = λ s after.
    text_stop c.args.path.now s c.args.checker.now c.take_all.new.checker after _ c.in-Err.stop
    (all_but _ c.args.path.now c.args.checker.now c.take_all.new.checker _ c.in-Err.stop refl c.in-Err.ensures.taken)
