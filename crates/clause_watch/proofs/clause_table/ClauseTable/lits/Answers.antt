use Rattle.clause_watch.proofs.Parts.{place-kept, part-at}
use Rattle.clause_watch.proofs.clause_table.ClauseTable.lits.Goals as goal

pub part-requires-clause-cut : goal.part-requires-clause-cut
part-requires-clause-cut c = rw (c.as_slice.ensures.value, c.as_slice-2.ensures.value) c.self.invariant

pub part-requires-clause-place : goal.part-requires-clause-place
part-requires-clause-place c = rw c.as_slice-2.ensures.value (place-kept _ _ _ _ c.self.view_is c.requires)

pub returns : goal.returns
returns c =
    rw (c.part.ensures, c.as_slice.ensures.value, c.as_slice-2.ensures.value) (part-at _ _ _ _ c.self.view_is c.requires)
