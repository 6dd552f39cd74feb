use Rattle.reachability.proofs.TableLaws.{AreFirstRows}
use Rattle.reachability.proofs.table.PathTable.new.Given as goal

abbrev pub invariant-loop-place : goal.invariant-loop-place
invariant-loop-place l = AreFirstRows l.heads.items l.places l.place l.marks
