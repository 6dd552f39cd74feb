use Rattle.std.proofs.Common.{◌≡◌, List, [], length}
use Rattle.std.specs.List.{list_any}
use Rattle.std.specs.Ordering.{is_eq}
use Rattle.std.specs.BTreeSet.{contains}
use Rattle.json_readers.specs.Lists.{twice_after}
use Rattle.json_readers.proofs.list.first_twice.Given as goal

abbrev pub invariant-loop-key : goal.invariant-loop-key
invariant-loop-key g l = record {
  before : List g.row.K.Denot;
  seen : (q : g.row.K.Denot) → contains g.K.Ord.cmp l.seen q ≡ list_any (λ b. is_eq (g.K.Ord.cmp b q)) before;
  places : l.place ≡ length l.yielded;
  left : twice_after g.K.Ord.cmp [] 0 l.fn.keys.items ≡ twice_after g.K.Ord.cmp before l.place l.key-iterator.rest.items;
}
