use Rattle.std.proofs.Common.{◌≡◌, ◌⊎◌, take}
use Rattle.run_output.specs.Each.{HoldsFrom, files_from}
use Rattle.run_output.proofs.each_put.put_each.Given as goal

-- the files of the roots so far are whole
abbrev pub invariant-loop-place : goal.invariant-loop-place
invariant-loop-place g l = record {
  put : g.D.Desk.files l.desk ≡ files_from l.dir 0 (take l.place l.problems) (take l.place l.answers) (g.D.Desk.files l.fn.desk);
  held : (g.D.Desk.files l.desk ≡ g.D.Desk.files l.fn.desk)
      ⊎ HoldsFrom l.dir 0 l.problems l.answers (g.D.Desk.files l.fn.desk) (g.D.Desk.files l.desk);
  faults : g.D.Desk.faults l.desk ≡ g.D.Desk.faults l.fn.desk;
  put_faults : g.D.Desk.put_faults l.desk ≡ g.D.Desk.put_faults l.fn.desk;
}
