use Rattle.clause_rows.proofs.RangeLaws.{lits-more}
use Rattle.clause_rows.proofs.input.lits_of.Goals as goal

pub loop-word-preserved : goal.loop-word-preserved
loop-word-preserved c = rw c.in_ok-push-in-Some.ensures.items
    (lits-more c.args.vars c.loop-word.lits.items c.in-Some.lit c.loop-word.invariant c.in-Some.ensures)
