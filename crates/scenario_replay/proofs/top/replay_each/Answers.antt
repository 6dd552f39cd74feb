use Rattle.std.proofs.Common.{◌∙◌}
use Rattle.outside_desk.proofs.Tellings.{both_still}
use Rattle.scenario_replay.proofs.Due.{one_more_said}
use Rattle.scenario_replay.proofs.top.replay_each.Goals as goal

pub loop-found-preserved : goal.loop-found-preserved
loop-found-preserved g c =
    let i = c.loop-found.invariant in
    let e = c.in_ok-replay_one.ensures in
    record {
      same = both_still _ _ _ i.same e.same;
      put_faults = e.put_faults ∙ i.put_faults;
      says = one_more_said c.loop-found.found-index _ _ _ _ _ _ _ _ e.same i.says e.says;
    }
