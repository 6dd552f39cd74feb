use Rattle.std.proofs.lemmas.Slice.Eq.{bytes_eq-Decides}
use Rattle.version_order.specs.Sets.{item_contains}
use Rattle.version_order.proofs.OverlapLaws.{items_symmetric, sets_symmetric, own_overlap, exact_overlaps, exact_set}
use Rattle.version_order.proofs.set_theorems.set_laws.Goals as goal

pub returns-clause-symmetric : goal.returns-clause-symmetric
returns-clause-symmetric c = sets_symmetric

pub returns-clause-symmetric_items : goal.returns-clause-symmetric_items
returns-clause-symmetric_items c = items_symmetric

pub returns-clause-exact : goal.returns-clause-exact
unfolding item_contains
returns-clause-exact c = bytes_eq-Decides

pub returns-clause-exact_item : goal.returns-clause-exact_item
returns-clause-exact_item c = exact_overlaps

pub returns-clause-exact_set : goal.returns-clause-exact_set
returns-clause-exact_set c = exact_set

pub returns-clause-own : goal.returns-clause-own
returns-clause-own c = own_overlap
