use Rattle.std.proofs.Common.{sym}
use Rattle.clause_store.proofs.Kept.{label-kept}
use Rattle.clause_store.proofs.list.ClauseList.label.Goals as goal

pub returns-in-Some : goal.returns-in-Some
returns-in-Some c =
    rw (c.label_at.ensures, c.as_slice.ensures.value)
    (sym (label-kept _ _ _ _ c.self.invariant c.args.self.now c.self.view_is c.args.id _ c.in-Some.ensures.some.0
    c.in-Some.ensures.some.1))
