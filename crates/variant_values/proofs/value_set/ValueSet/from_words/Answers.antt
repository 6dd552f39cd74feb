use Rattle.std.proofs.lemmas.List.Filters.{dedup_is}
use Rattle.variant_values.proofs.Many.{one_by_one, once_in_order, once_same}
use Rattle.variant_values.proofs.value_set.ValueSet.from_words.Goals as goal

pub invariant_of-result : goal.invariant_of-result
invariant_of-result c = rw (c.shrink_to_fit.ensures.items, dedup_is _ _ _ c.dedup.ensures.filtered)
    (once_in_order _ c.sort_unstable.ensures.sorted)

pub returns : goal.returns
returns c =
    let is = dedup_is _ _ _ c.dedup.ensures.filtered in
    let ordered = once_in_order _ c.sort_unstable.ensures.sorted in
    let same = once_same _ _ c.sort_unstable.ensures.permutation in
    rw (c.shrink_to_fit.ensures.items, is) record { texts = same; ordered = ordered; set = one_by_one _ _ ordered same }
