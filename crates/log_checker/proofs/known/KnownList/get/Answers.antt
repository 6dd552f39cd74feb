use Rattle.log_checker.proofs.Flat.{place-in, got, got-order}
use Rattle.log_checker.proofs.known.KnownList.get.Goals as goal

pub part-lits-requires-clause-cut : goal.part-lits-requires-clause-cut
part-lits-requires-clause-cut c = rw (c.as_slice.ensures.value, c.as_slice-2.ensures.value) c.self.invariant.0

pub part-lits-requires-clause-place : goal.part-lits-requires-clause-place
part-lits-requires-clause-place c =
    rw c.as_slice-2.ensures.value (place-in _ _ _ c.self.view_is c.args.place c.requires)

pub returns-clause-value : goal.returns-clause-value
returns-clause-value c =
    got _ _ _ c.self.view_is c.args.place c.requires _ _ _ _ _ c.as_slice.ensures.value c.as_slice-2.ensures.value
    c.as_slice-3.ensures.value
    c.part-lits.ensures c.is_bit_at.ensures

pub returns-clause-in_order : goal.returns-clause-in_order
returns-clause-in_order c =
    got-order _ _ _ c.self.view_is c.args.place c.requires _ c.self.invariant.1
    (got _ _ _ c.self.view_is c.args.place c.requires _ _ _ _ _ c.as_slice.ensures.value c.as_slice-2.ensures.value
    c.as_slice-3.ensures.value
    c.part-lits.ensures c.is_bit_at.ensures)
