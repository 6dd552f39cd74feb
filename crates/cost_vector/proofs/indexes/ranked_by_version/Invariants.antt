use Rattle.std.proofs.Common.{◌≡◌, take, map}
use Rattle.keyed_lists.specs.Lent.{lent}
use Rattle.keyed_lists.proofs.Lent.{pair_of}
use Rattle.cost_vector.proofs.indexes.ranked_by_version.Given as goal

abbrev pub invariant-loop-one : goal.invariant-loop-one
invariant-loop-one l = lent l.entries.items ≡ map (pair_of (λ r. r.row.version)) (take l.one-index l.ranked)
