use Rattle.keyed_lists.proofs.GivenLaws.{in_order-filter_map, find-filter_map, is_given, list_all-filter_map, sum_by-filter_map}
use Rattle.keyed_lists.proofs.theorems.given_laws.Goals as goal

pub returns : goal.returns
returns g c = record {
  in_order = λ cmp key o given keyed. in_order-filter_map o.total o.exact key given keyed;
  found = λ cmp key o given keyed keys rising k there. find-filter_map o.total o.exact key given keyed keys k rising there;
  whole = λ cmp key o keys rising xs ordered within. is_given o.total o.exact key keys xs rising ordered within;
  each = list_all-filter_map;
  sum = sum_by-filter_map;
}
