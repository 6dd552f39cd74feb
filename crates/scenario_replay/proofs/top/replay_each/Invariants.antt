use Rattle.std.proofs.Common.{◌≡◌}
use Rattle.outside_desk.specs.Files.{StillTells}
use Rattle.scenario_replay.specs.Told.{ReplaysAll}
use Rattle.scenario_replay.proofs.top.replay_each.Given as goal

-- what came of the files so far was counted and said
abbrev pub invariant-loop-found : goal.invariant-loop-found
invariant-loop-found g l = record {
  same : StillTells (g.D.Desk.files l.fn.desk) (g.D.Desk.files l.desk);
  put_faults : g.D.Desk.put_faults l.desk ≡ g.D.Desk.put_faults l.fn.desk;
  says : ReplaysAll l.found-index (g.D.Desk.files l.desk) (g.O.Sink.said l.fn.out) (g.O.Sink.said l.out) l.counts;
}
