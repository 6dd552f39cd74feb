use Rattle.std.proofs.Common.{sym, ap, ◌∙◌, List, count_by}
use Rattle.std.specs.Ordering.{is_lt}
use Rattle.std.specs.Str.{bytes_eq}
use Rattle.cost_vector.specs.Ranks.{Rank, rank_cmp, place_among}
use Rattle.cost_vector.proofs.RankLaws.{moved_place}
use Rattle.cost_vector.proofs.IndexLaws.{none_found, first_found}
use Rattle.cost_vector.proofs.indexes.RankTable.weight.Goals as goal

pub returns-in-empty : goal.returns-in-empty
returns-in-empty c =
    let ranks = c.self.inside.ranked.now in
    rw (← c.self.view_is) (sym (ap (place_among ranks)
    (none_found (λ (r : Rank). bytes_eq r.row.version c.args.version.now) ranks c.of.result.now
    (rw c.of.ensures (c.self.invariant.index c.args.version.now)) c.in-empty.len_below)))

pub returns-in-len1-up : goal.returns-in-len1-up
returns-in-len1-up c =
    let ranks = c.self.inside.ranked.now in
    let one = c.first-item.result.1.now in
    rw (← c.self.view_is) (c.place_in.ensures
    ∙ ap (λ (sorted : List Rank). count_by (λ other. is_lt (rank_cmp other one)) sorted) c.as_slice.ensures.value
    ∙ moved_place ranks c.self.inside.sorted.items one c.self.invariant.permutation
    ∙ sym (ap (place_among ranks) (first_found (λ (r : Rank). bytes_eq r.row.version c.args.version.now) ranks c.of.result.now
    c.first-item.result (rw c.of.ensures (c.self.invariant.index c.args.version.now)) c.in-len1-up.len_at_least c.first-item.is)))
