use Rattle.std.proofs.Common.{◌∙◌, sym}
use Rattle.clause_solver.proofs.Minimizing.{low-keeps, low-known}
use Rattle.clause_solver.proofs.analysis.minimize_by_unit.Goals as goal

pub is_single-requires : goal.is_single-requires
is_single-requires c = record { known = low-known c.args.watch.now c.requires.right c.args.lit c.in-Some.id c.in-Some.ensures }

pub resolve-requires-clause-known : goal.resolve-requires-clause-known
resolve-requires-clause-known c = low-known c.args.watch.now c.requires.right c.args.lit c.in-Some.id c.in-Some.ensures

pub returns-clause-uip : goal.returns-clause-uip
returns-clause-uip c =
    let r = c.in_ok-resolve.ensures in
    low-keeps c.args.watch.now c.requires.right c.requires.above c.args.seen.now c.resolve.new.seen c.args.lit c.in-Some.id
    c.in-Some.ensures (sym c.has.ensures ∙ c.if-not-has.false) r.seen r.same c.args.chain.now c.resolve.new.chain r.chain
