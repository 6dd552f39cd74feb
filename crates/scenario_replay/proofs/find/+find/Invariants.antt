use Rattle.std.proofs.Common.{◌≡◌, ◌≤◌, ◌+◌, length}
use Rattle.outside_desk.specs.Files.{StillTells}
use Rattle.scenario_replay.proofs.find.+find.Given as goal

abbrev pub decreases-find : goal.decreases-find
decreases-find g l = l.levels

abbrev pub invariant-loop-name : goal.invariant-loop-name
invariant-loop-name g l = record {
  same : StillTells (g.D.Desk.files l.fn.desk) (g.D.Desk.files l.desk);
  put_faults : g.D.Desk.put_faults l.desk ≡ g.D.Desk.put_faults l.fn.desk;
  more : length l.fn.found.items + l.name-index ≤ length l.found.items;
}
