use Rattle.std.proofs.Common.{ap, sym, ◌∙◌}
use Rattle.run_input.specs.Words.{Command}
use Rattle.run_task.specs.Tasks.{made_for}
use Rattle.run_task.proofs.SeenTasks.{named_made, named_there, seen_made, seen_there}
use Rattle.run_task.proofs.task.read_task.Goals as goal

pub returns-in-Some-clause-read : goal.returns-in-Some-clause-read
returns-in-Some-clause-read g c =
    named_made c.args.command.now c.read_made.result _ c.in-Some.packages c.in-Some.seed
    (sym (ap (λ (k : Command). made_for k.work) c.command.view_is) ∙ (sym c.made_for.ensures ∙ c.in-Some.is)) c.read_made.ensures.read

pub returns-in-None-clause-read : goal.returns-in-None-clause-read
returns-in-None-clause-read g c =
    named_there c.args.command.now _ _
    (sym (ap (λ (k : Command). made_for k.work) c.command.view_is) ∙ (sym c.made_for.ensures ∙ c.in-None.is)) c.read_over.ensures.read

pub returns-in-Some-clause-seen : goal.returns-in-Some-clause-seen
returns-in-Some-clause-seen g c =
    seen_made c.args.command.now c.read_made.result _ c.in-Some.packages c.in-Some.seed
    (sym (ap (λ (k : Command). made_for k.work) c.command.view_is) ∙ (sym c.made_for.ensures ∙ c.in-Some.is)) c.read_made.ensures.seen

pub returns-in-None-clause-seen : goal.returns-in-None-clause-seen
returns-in-None-clause-seen g c =
    seen_there c.args.command.now c.read_over.result _
    (sym (ap (λ (k : Command). made_for k.work) c.command.view_is) ∙ (sym c.made_for.ensures ∙ c.in-None.is)) c.read_over.ensures.seen
