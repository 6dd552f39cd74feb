use Rattle.log_checker.proofs.Flat.{trimmed, trimmed-cut, trimmed-order}
use Rattle.log_checker.proofs.known.KnownList.truncate.Goals as goal

pub invariant_of-self : goal.invariant_of-self
invariant_of-self c = (
  trimmed-cut _ _ _ c.self.view_is c.args.count c.requires c.self.invariant.0 _ _ _ _ c.start_of-end.ensures c.as_slice.ensures.value
      c.truncate.ensures.items c.truncate-2.ensures.items,
  trimmed-order _ _ _ c.self.view_is c.args.count c.requires c.self.invariant.0 _ _ _ _ c.start_of-end.ensures c.as_slice.ensures.value
      c.truncate.ensures.items c.truncate-2.ensures.items c.self.invariant.1,
)

pub returns : goal.returns
returns c =
    trimmed _ _ _ c.self.view_is c.args.count c.requires c.self.invariant.0 _ _ _ _ c.start_of-end.ensures c.as_slice.ensures.value
    c.truncate.ensures.items c.truncate-2.ensures.items
