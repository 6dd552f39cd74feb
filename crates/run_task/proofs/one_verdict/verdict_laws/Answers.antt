use Rattle.run_task.proofs.One.{ReadsOnce, one_graph, one_verdict}
use Rattle.run_task.proofs.one_verdict.verdict_laws.Goals as goal

pub returns : goal.returns
returns c =
    let laws : ReadsOnce =
    record {
      reading = c.lock_laws.ensures.one_reading;
      fault = c.lock_laws.ensures.one_fault;
      right = c.lock_laws.ensures.right;
    } in
    record { one = one_verdict laws; one_graph = one_graph laws }
