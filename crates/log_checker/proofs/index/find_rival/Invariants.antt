use Rattle.std.proofs.Common.{length}
use Rattle.log_checker.specs.Links.{bucket_of}
use Rattle.log_checker.proofs.Seeking.{Seeks}
use Rattle.log_checker.proofs.index.find_rival.Given as goal

abbrev pub invariant-loop-next : goal.invariant-loop-next
invariant-loop-next l = Seeks (bucket_of l.factor (length l.heads)) l.known l.lits l.next

abbrev pub decreases-loop-next : goal.decreases-loop-next
decreases-loop-next l = l.next
