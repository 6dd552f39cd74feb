use Rattle.std.proofs.Common.{◌∙◌}
use Rattle.run_task.proofs.Checks.{check_read, check_seen, stop_path, stop_read, stop_reads}
use Rattle.run_task.proofs.each_check.read_check_at.Goals as goal

pub returns-in-Ok-clause-read : goal.returns-in-Ok-clause-read
returns-in-Ok-clause-read g c =
    check_read c.args.dir.now c.as_str.result.now c.as_str-2.result.now c.args.root (c.as_str.ensures.value ∙ c.in_ok-lock.ensures)
    (c.as_str-2.ensures.value ∙ c.in_ok-cert.ensures) _ c.args.one.now.problem c.in-Ok.task c.in-Ok.ensures.read

pub returns-in-Ok-clause-shown : goal.returns-in-Ok-clause-shown
returns-in-Ok-clause-shown g c =
    check_seen c.args.dir.now c.as_str.result.now c.as_str-2.result.now c.args.root (c.as_str.ensures.value ∙ c.in_ok-lock.ensures)
    (c.as_str-2.ensures.value ∙ c.in_ok-cert.ensures) _ c.args.one.now.problem c.in-Ok.ensures.shown

pub returns-clause-read : goal.returns-clause-read
returns-clause-read g c =
    stop_read c.args.dir.now c.as_str.result.now c.as_str-2.result.now c.args.root (c.as_str.ensures.value ∙ c.in_ok-lock.ensures)
    (c.as_str-2.ensures.value ∙ c.in_ok-cert.ensures) _ c.args.one.now.problem c.in-Err.stop c.in_root.result c.in_root.ensures
    c.in-Err.ensures.read

pub returns-clause-path : goal.returns-clause-path
returns-clause-path g c =
    stop_path c.args.dir.now c.as_str.result.now c.as_str-2.result.now c.args.root (c.as_str.ensures.value ∙ c.in_ok-lock.ensures)
    (c.as_str-2.ensures.value ∙ c.in_ok-cert.ensures) _ c.args.one.now.problem c.in-Err.stop c.in_root.result c.in_root.ensures
    c.in-Err.ensures.path

pub returns-clause-only_reads : goal.returns-clause-only_reads
returns-clause-only_reads g c =
    stop_reads g.D.Desk.files g.D.Desk.faults g.D.Desk.put_faults c.args.desk.now _ c.args.root c.in-Err.stop c.in_root.result
    c.in_root.ensures c.in-Err.ensures.only_reads
