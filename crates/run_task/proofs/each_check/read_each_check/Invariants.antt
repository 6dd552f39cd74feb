use Rattle.std.proofs.Common.{◌≡◌, IfSome, take}
use Rattle.outside_desk.specs.Files.{StillTells}
use Rattle.run_task.specs.Problems.{each_alone}
use Rattle.run_task.specs.Shown.{AreBestLocks}
use Rattle.run_task.proofs.Checks.{RestIs}
use Rattle.run_task.proofs.each_check.read_each_check.Given as goal

-- the files of the roots so far are right, so those to come decide
abbrev pub invariant-loop-place : goal.invariant-loop-place
invariant-loop-place g l = record {
  same : StillTells (g.D.Desk.files l.fn.desk) (g.D.Desk.files l.desk);
  steady : g.D.Desk.faults l.desk ≡ g.D.Desk.faults l.fn.desk;
  put_faults : g.D.Desk.put_faults l.desk ≡ g.D.Desk.put_faults l.fn.desk;
  rest : IfSome (g.D.Desk.files l.desk) (λ files. RestIs files l.dir l.place (each_alone l.input.problem));
  best : IfSome (g.D.Desk.files l.desk) (λ files. AreBestLocks files l.dir 0 (take l.place (each_alone l.input.problem)));
}
