use Rattle.std.proofs.Common.{◌≡◌, ◌-◌, ◌≤◌, IfSome, length, take}
use Rattle.std.specs.FinMap.{get}
use Rattle.outside_desk.specs.Files.{StillTells}
use Rattle.outside_desk.proofs.whole.read_whole.Given as goal

abbrev pub invariant-pieces : goal.invariant-pieces
invariant-pieces g l = record {
  same : StillTells (g.D.Desk.files l.fn.desk) (g.D.Desk.files l.desk);
  steady : g.D.Desk.faults l.desk ≡ g.D.Desk.faults l.fn.desk;
  put_faults : g.D.Desk.put_faults l.desk ≡ g.D.Desk.put_faults l.fn.desk;
  within : length l.bytes.items ≤ l.limit;
  so_far : IfSome (g.D.Desk.files l.desk) (λ m. IfSome (get m l.path) (λ file. l.bytes.items ≡ take (length l.bytes.items) file));
}

abbrev pub decreases-pieces : goal.decreases-pieces
decreases-pieces g l = l.limit - length l.bytes.items
