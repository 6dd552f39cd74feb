use Rattle.std.proofs.Common.{ap, ◌∙◌, Some}
use Rattle.run_task.proofs.SeenTasks.{over_made, seen_told, tells_on}
use Rattle.run_task.proofs.task.read_made.Goals as goal

pub returns-clause-read : goal.returns-clause-read
returns-clause-read g c =
    over_made c.args.command.now c.read_over-task.result _ _
    (tells_on _ _ c.read_over-task.ensures.only_reads.same ∙ ap Some c.in_ok-made.ensures) c.read_over-task.ensures.read

pub returns-clause-seen : goal.returns-clause-seen
returns-clause-seen g c =
    seen_told c.args.command.now c.read_over-task.result _ _
    (tells_on _ _ c.read_over-task.ensures.only_reads.same ∙ ap Some c.in_ok-made.ensures) c.read_over-task.ensures.seen
