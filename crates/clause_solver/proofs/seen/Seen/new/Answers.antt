use Rattle.std.proofs.Common.{false, replicate, sym, subst}
use Rattle.clause_solver.specs.Seen.{AreListed}
use Rattle.clause_solver.proofs.Listing.{listed-none}
use Rattle.clause_solver.proofs.seen.Seen.new.Goals as goal

pub invariant_of-result : goal.invariant_of-result
invariant_of-result c =
    let e = c.in_ok-table.ensures.items_if_clones_equal (λ y h. h) in
    subst (λ t. AreListed t c.new-listed.result.items) (sym e)
    (subst (AreListed (replicate c.args.vars false)) (sym c.new-listed.ensures.items) (listed-none c.args.vars))
