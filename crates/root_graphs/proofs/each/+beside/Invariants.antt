use Prim.Native.Nat.{◌+◌, ◌*◌}
use Rattle.root_graphs.proofs.each.+beside.Given as goal

abbrev pub decreases-best_beside : goal.decreases-best_beside
decreases-best_beside g l = 2 * l.threads

abbrev pub decreases-ahead : goal.decreases-ahead
decreases-ahead g l = 2 * l.fewer + 1

abbrev pub decreases-beyond : goal.decreases-beyond
decreases-beyond g l = 2 * l.rest + 1
