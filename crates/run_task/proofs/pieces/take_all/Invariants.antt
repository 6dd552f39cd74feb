use Rattle.std.proofs.Common.{◌≡◌, ◌≤◌, ◌<◌, ◌-◌, length}
use Rattle.outside_desk.specs.Files.{StillTells}
use Rattle.run_task.specs.Certificates.{most}
use Rattle.run_task.proofs.Next.{CarriesAt}
use Rattle.run_task.proofs.pieces.take_all.Given as goal

abbrev pub invariant-pieces : goal.invariant-pieces
invariant-pieces g l = record {
  same : StillTells (g.D.Desk.files l.fn.desk) (g.D.Desk.files l.desk);
  steady : g.D.Desk.faults l.desk ≡ g.D.Desk.faults l.fn.desk;
  put_faults : g.D.Desk.put_faults l.desk ≡ g.D.Desk.put_faults l.fn.desk;
  within : l.from ≤ most;
  room : 0 < length l.piece;
  carried : CarriesAt (g.D.Desk.files l.desk) l.path l.from l.fn.checker l.checker;
}

abbrev pub decreases-pieces : goal.decreases-pieces
decreases-pieces g l = most - l.from
