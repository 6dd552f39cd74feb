use Rattle.std.proofs.Common.{◌<◌, length, rules, get_or, ap, arith}
use Rattle.clause_store.specs.Lits.{var_of}
use Rattle.clause_solver.proofs.LearntLaws.{length-lits}
use Rattle.clause_solver.proofs.SeenLaws.{some_lit, var-at}
use Rattle.clause_solver.proofs.seen.var_at.Goals as goal

pub offset_bounds-trail-at : goal.offset_bounds-trail-at
offset_bounds-trail-at c =
    let lt : c.args.at < length c.trail.result.now =
    omega (arith, length-lits c.args.watch.now.placed c.trail.result.now c.trail.ensures, c.requires) in
    search (rules, lt)

pub bounds-trail-at : goal.bounds-trail-at
bounds-trail-at c = omega (arith, length-lits c.args.watch.now.placed c.trail.result.now c.trail.ensures, c.requires)

pub returns : goal.returns
returns c = var-at c.args.watch.now.placed c.args.at _ some_lit c.requires
    (ap (λ ls. var_of (get_or ls c.args.at some_lit)) c.trail.ensures)
