use Rattle.keyed_lists.proofs.KeyedLaws.{in_order-with_one}
use Rattle.keyed_lists.proofs.LookupLaws.{found_iff, find-with_one, same_lists}
use Rattle.keyed_lists.proofs.RiseLaws.{rises_decides}
use Rattle.keyed_lists.proofs.theorems.keyed_laws.Goals as goal

pub returns : goal.returns
returns g c = record {
  rises = λ cmp o keys. rises_decides cmp o.total keys;
  found = λ cmp key o xs ordered k x. found_iff o.total o.exact key xs k x ordered;
  same = λ cmp key o. same_lists o.total o.exact key;
  in_order = λ cmp key o xs ordered x. in_order-with_one o.total o.exact key xs x ordered;
  one_more = λ cmp key o xs x none k. find-with_one o.total o.exact key xs x k none;
}
