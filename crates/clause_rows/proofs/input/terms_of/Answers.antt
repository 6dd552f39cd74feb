use Rattle.clause_rows.proofs.RangeLaws.{terms-more}
use Rattle.clause_rows.proofs.input.terms_of.Goals as goal

pub loop-word-preserved : goal.loop-word-preserved
loop-word-preserved c = rw c.in_ok-push-in-Some.ensures.items
    (terms-more c.args.vars c.loop-word.terms.items c.in-Some.term c.loop-word.invariant c.in-Some.ensures)
