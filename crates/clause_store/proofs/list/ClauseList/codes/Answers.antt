use Rattle.clause_store.proofs.Entries.{at_id-no_clause}
use Rattle.clause_store.proofs.Kept.{place-kept, clause-kept, order-kept}
use Rattle.clause_store.proofs.list.ClauseList.codes.Goals as goal

pub part-requires-clause-cut : goal.part-requires-clause-cut
part-requires-clause-cut c = rw (c.as_slice.ensures.value, c.as_slice-in-Some.ensures.value) c.self.invariant.cut

pub part-requires-clause-place : goal.part-requires-clause-place
part-requires-clause-place c =
    rw c.as_slice-in-Some.ensures.value (place-kept _ _ _ _ c.self.invariant c.args.self.now c.self.view_is c.args.id _
    c.in-Some.ensures.some.0 c.in-Some.ensures.some.1)

pub returns-in-Some-clause-some : goal.returns-in-Some-clause-some
returns-in-Some-clause-some c =
    rw (c.part.ensures, c.as_slice.ensures.value, c.as_slice-in-Some.ensures.value)
    (clause-kept _ _ _ _ c.self.invariant c.args.self.now c.self.view_is c.args.id _ c.in-Some.ensures.some.0 c.in-Some.ensures.some.1)

pub returns-in-Some-clause-in_order : goal.returns-in-Some-clause-in_order
returns-in-Some-clause-in_order c =
    rw (c.part.ensures, c.as_slice.ensures.value, c.as_slice-in-Some.ensures.value)
    (order-kept _ _ _ _ c.self.invariant c.args.self.now c.self.view_is c.args.id _ c.in-Some.ensures.some.0 c.in-Some.ensures.some.1)

pub returns-in-None-clause-none : goal.returns-in-None-clause-none
returns-in-None-clause-none c = at_id-no_clause c.args.self.now.entries c.args.id c.in-None.ensures.none
