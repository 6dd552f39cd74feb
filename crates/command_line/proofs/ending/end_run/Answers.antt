use Rattle.std.proofs.Common.{inr, sym}
use Rattle.outside_desk.proofs.Tellings.{told_still}
use Rattle.command_line.proofs.ending.end_run.Goals as goal

pub returns : goal.returns
returns g c = record {
  status = c.run-status.result;
  ends = c.ended.ensures;
  answered = record {
    no_command = λ none.
        let all = c.run-status.ensures.words none in
        (sym (told_still _ _ (inr all.0)), all.1, all.2, all.3, all.4, all.5);
    usage = c.run-status.ensures.usage;
    done = c.run-status.ensures.done;
    shown = c.run-status.ensures.shown;
    unsatisfiable = c.run-status.ensures.unsatisfiable;
    undecided = c.run-status.ensures.undecided;
    stale = c.run-status.ensures.stale;
    outdone = c.run-status.ensures.outdone;
    refused = c.run-status.ensures.refused;
    read_fault = c.run-status.ensures.read_fault;
    write_fault = c.run-status.ensures.write_fault;
    no_memory = c.run-status.ensures.no_memory;
    steady = c.run-status.ensures.steady;
    others = c.run-status.ensures.others;
    held = c.run-status.ensures.held;
    logged = c.run-status.ensures.logged;
    keeps = c.run-status.ensures.kept;
    complete = c.run-status.ensures.complete;
    due = c.run-status.ensures.due;
    counts = c.run-status.ensures.counts;
  };
}
