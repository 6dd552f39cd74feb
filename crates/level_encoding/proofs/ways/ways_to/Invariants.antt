use Rattle.std.proofs.Common.{◌≡◌, ℕ, ◌+◌, ◌<◌, None, length, slice_index_or}
use Rattle.level_encoding.specs.Counts.{count_below}
use Rattle.level_encoding.specs.Encoding.{leads, path_start, way}
use Rattle.level_encoding.proofs.ways.ways_to.Given as goal

abbrev pub invariant-loop-p : goal.invariant-loop-p
invariant-loop-p l =
    (length l.lits.items ≡ l.p) × (l.next ≡ path_start l.input l.q + count_below (leads l.input l.q) l.p)
    × ((k : ℕ) → k < l.p → slice_index_or l.lits.items k None ≡ way l.input l.q k)
