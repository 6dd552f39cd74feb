use Rattle.std.proofs.Common.{rules}
use Rattle.std.proofs.lemmas.Fn.{always_returns_same}
use Rattle.std.proofs.lemmas.List.Sorted.{ranks_by}
use Rattle.std.specs.Ordering.{is_lt}
use Rattle.cost_vector.specs.Ranks.{Rank, rank_cmp}
use Rattle.cost_vector.proofs.RankLaws.{rank_total}
use Rattle.cost_vector.proofs.ranks.sorted.Goals as goal

pub returns-clause-sorted : goal.returns-clause-sorted
returns-clause-sorted c = c.in_ok-sort_by.ensures.sorted (λ a b. is_lt (rank_cmp a b)) (ranks_by rank_total (λ (r : Rank). r))
    (always_returns_same _ _ _ (λ a r f k. search rules))
