use Rattle.std.proofs.Common.{arith}
use Rattle.clause_watch.proofs.Places.{place-below}
use Rattle.clause_solver.proofs.seen.last_seen.Goals as goal

pub has-requires : goal.has-requires
has-requires c =
    let p = c.var_at.ensures in
    let h = place-below c.args.watch.now.vars c.args.watch.now.placed _ p.0 c.requires.right.orderly.in_table p.1 in
    omega (arith, h, p.2, c.requires.in_range)
