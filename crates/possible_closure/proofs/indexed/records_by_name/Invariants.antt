use Rattle.std.proofs.Common.{◌≡◌, take, map}
use Rattle.keyed_lists.specs.Lent.{lent}
use Rattle.keyed_lists.proofs.Lent.{pair_of}
use Rattle.possible_closure.proofs.indexed.records_by_name.Given as goal

abbrev pub invariant-loop-entry : goal.invariant-loop-entry
invariant-loop-entry l = lent l.named.items ≡ map (pair_of (λ entry. entry.name)) (take l.entry-index l.records)
