use Rattle.std.proofs.Common.{rules}
use Rattle.std.specs.Ordering.{is_lt}
use Rattle.std.proofs.lemmas.List.Sorted.{IsPartitionPoint-from_clause}
use Rattle.cost_vector.specs.Ranks.{rank_cmp}
use Rattle.cost_vector.proofs.RankLaws.{before_parts, place_is}
use Rattle.cost_vector.proofs.ranks.place_in.Goals as goal

pub returns : goal.returns
returns c =
    let sorted = c.args.sorted.now in
    let one = c.args.one.now in
    let point = c.partition_point.ensures in
    place_is sorted one c.partition_point.result point.bound
    (IsPartitionPoint-from_clause (λ other. is_lt (rank_cmp other one)) sorted _ point.partitioned
    (before_parts sorted one c.requires) (λ a r f called. search rules))
