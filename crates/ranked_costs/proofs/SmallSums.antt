-- Sums that are tested are small.
use Rattle.std.proofs.Common.{◌≡◌, ◌^◌, true, List, [], ◌∷◌}
use Rattle.std.proofs.lemmas.Bool.{and_parts, ltb-true}
use Rattle.std.proofs.Math.Dec.{ltb}
use Rattle.criteria_totals.specs.Spellings.{AllSmall}
use Rattle.cost_terms.specs.declared.weighted.Weighted.{Weighted}
use Rattle.cost_terms.specs.Weighed.{top_said, tops_said}
use Rattle.ranked_costs.specs.Small.{are_small}

-- sums that test small are small
pub all-small : (lists : List (List Weighted)) → are_small lists ≡ true → AllSmall (tops_said lists)
all-small [] h = tt
all-small (terms ∷ lists) h =
    let p = and_parts (ltb (top_said terms) (2 ^ 63)) (are_small lists) h in
    (ltb-true (top_said terms) (2 ^ 63) p.0, all-small lists p.1)
