use Rattle.std.proofs.Common.{◌≡◌, ◌≤◌, length}
use Rattle.outside_desk.specs.Files.{StillTells}
use Rattle.scenario_replay.proofs.top.find_all.Given as goal

abbrev pub invariant-loop-word : goal.invariant-loop-word
invariant-loop-word g l = record {
  same : StillTells (g.D.Desk.files l.fn.desk) (g.D.Desk.files l.desk);
  put_faults : g.D.Desk.put_faults l.desk ≡ g.D.Desk.put_faults l.fn.desk;
  enough : l.word-index ≤ length l.found.items;
}
