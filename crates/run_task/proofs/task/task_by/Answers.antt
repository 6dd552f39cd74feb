use Rattle.std.proofs.Common.{ap, sym, ◌∙◌}
use Rattle.run_input.specs.Words.{Command}
use Rattle.run_input.specs.Work.TheVariants as works
use Rattle.run_task.proofs.Paths.{of_check, of_file, of_roots}
use Rattle.run_task.proofs.Stops.{judged, checked, compared, each_checked, planned}
use Rattle.run_task.proofs.SeenTasks.{compared_seen}
use Rattle.run_task.proofs.task.task_by.Goals as goal

pub returns-in-Judge-clause-read : goal.returns-in-Judge-clause-read
returns-in-Judge-clause-read g c =
    judged _ c.args.command.now c.args.input c.read_report-task.result _ (sym (ap (λ (k : Command). k.work) c.command.view_is)
    ∙ c.in-Judge.is)
    (ap (λ (k : Command). k.lock) c.command.view_is) c.read_report-task.ensures.read

pub returns-in-Check-clause-read : goal.returns-in-Check-clause-read
returns-in-Check-clause-read g c =
    checked _ c.args.command.now c.args.input c.read_check-task.result _ _ (sym (ap (λ (k : Command). k.work) c.command.view_is)
    ∙ c.in-Check.is)
    (ap (λ (k : Command). k.lock) c.command.view_is) (ap (λ (k : Command). k.cert) c.command.view_is) c.read_check-task.ensures.read

pub returns-in-Fresh-clause-read : goal.returns-in-Fresh-clause-read
returns-in-Fresh-clause-read g c =
    compared _ c.args.command.now c.args.input c.read_comparison.result _ (sym (ap (λ (k : Command). k.work) c.command.view_is)
    ∙ c.in-Fresh.is)
    (ap (λ (k : Command). k.lock) c.command.view_is) c.read_comparison.ensures.read

pub returns-in-Fresh-clause-seen : goal.returns-in-Fresh-clause-seen
returns-in-Fresh-clause-seen g c =
    compared_seen c.args.command.now c.args.input c.read_comparison.result _ _ (sym (ap (λ (k : Command). k.work) c.command.view_is)
    ∙ c.in-Fresh.is)
    (ap (λ (k : Command). k.lock) c.command.view_is) c.read_comparison.ensures.seen

pub returns-in-Plan-clause-read : goal.returns-in-Plan-clause-read
returns-in-Plan-clause-read g c =
    planned _ c.args.command.now c.args.input c.read_plan-task.result _ (sym (ap (λ (k : Command). k.work) c.command.view_is)
    ∙ c.in-Plan.is)
    (ap (λ (k : Command). k.lock) c.command.view_is) c.read_plan-task.ensures.read

pub returns-in-CheckEach-clause-read : goal.returns-in-CheckEach-clause-read
returns-in-CheckEach-clause-read g c =
    each_checked _ c.args.command.now c.args.input c.read_each_check-task.result _
    (sym (ap (λ (k : Command). k.work) c.command.view_is) ∙ c.in-CheckEach.is) (ap (λ (k : Command). k.lock) c.command.view_is)
    c.read_each_check-task.ensures.read

-- ---- where a device fails

pub returns-in-Judge-clause-path : goal.returns-in-Judge-clause-path
returns-in-Judge-clause-path g c =
    of_file _ c.args.command.now c.args.input.problem works.Judge _ c.args.command.now.lock c.read_report-task.result (λ path same. same)
    (sym (ap (λ (k : Command). k.work) c.command.view_is) ∙ c.in-Judge.is) (ap (λ (k : Command). k.lock) c.command.view_is)
    c.read_report-task.ensures.path

pub returns-in-Fresh-clause-path : goal.returns-in-Fresh-clause-path
returns-in-Fresh-clause-path g c =
    of_file _ c.args.command.now c.args.input.problem works.Fresh _ c.args.command.now.lock c.read_comparison.result (λ path same. same)
    (sym (ap (λ (k : Command). k.work) c.command.view_is) ∙ c.in-Fresh.is) (ap (λ (k : Command). k.lock) c.command.view_is)
    c.read_comparison.ensures.path

pub returns-in-Plan-clause-path : goal.returns-in-Plan-clause-path
returns-in-Plan-clause-path g c =
    of_file _ c.args.command.now c.args.input.problem works.Plan _ c.args.command.now.lock c.read_plan-task.result (λ path same. same)
    (sym (ap (λ (k : Command). k.work) c.command.view_is) ∙ c.in-Plan.is) (ap (λ (k : Command). k.lock) c.command.view_is)
    c.read_plan-task.ensures.path

pub returns-in-Refute-clause-path : goal.returns-in-Refute-clause-path
returns-in-Refute-clause-path g c =
    of_file _ c.args.command.now c.args.input.problem works.Refute _ c.args.command.now.cert c.read_acceptance-task.result
    (λ path same. same)
    (sym (ap (λ (k : Command). k.work) c.command.view_is) ∙ c.in-Refute.is) (ap (λ (k : Command). k.cert) c.command.view_is)
    c.read_acceptance-task.ensures.path

pub returns-in-Check-clause-path : goal.returns-in-Check-clause-path
returns-in-Check-clause-path g c =
    of_check _ c.args.command.now c.args.input.problem _ _ c.read_check-task.result (sym (ap (λ (k : Command). k.work) c.command.view_is)
    ∙ c.in-Check.is)
    (ap (λ (k : Command). k.lock) c.command.view_is) (ap (λ (k : Command). k.cert) c.command.view_is) c.read_check-task.ensures.path

pub returns-in-CheckEach-clause-path : goal.returns-in-CheckEach-clause-path
returns-in-CheckEach-clause-path g c =
    of_roots _ c.args.command.now c.args.input.problem _ c.read_each_check-task.result
    (sym (ap (λ (k : Command). k.work) c.command.view_is) ∙ c.in-CheckEach.is) (ap (λ (k : Command). k.lock) c.command.view_is)
    c.read_each_check-task.ensures.path
