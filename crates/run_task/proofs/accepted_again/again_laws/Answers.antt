use Rattle.run_task.proofs.Accepted.{best_accepted, nothing_accepted}
use Rattle.run_task.proofs.EachAccepted.{each_accepted}
use Rattle.run_task.proofs.accepted_again.again_laws.Goals as goal

pub returns : goal.returns
returns c = record {
  best = best_accepted c.checker_laws.ensures.accepted c.text_laws.ensures.written c.verdict_laws.ensures.best;
  each = each_accepted (best_accepted c.checker_laws.ensures.accepted c.text_laws.ensures.written c.verdict_laws.ensures.best);
  nothing = nothing_accepted c.checker_laws.ensures.accepted c.text_laws.ensures.written c.verdict_laws.ensures.nothing;
}
