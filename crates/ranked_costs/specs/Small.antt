-- Sums that are small.
use Rattle.std.specs.Prelude.{◌≡◌, ℕ, ◌≤◌, ◌^◌, Bool, true, List, length, map, nat_lt}
use Rattle.std.specs.List.{list_all}
use Rattle.std.specs.List.Sorted.{IsPermutation}
use Rattle.graph_core.specs.Graphs.{Text}
use Rattle.problem.specs.Problems.{Problem}
use Rattle.problem.specs.Closure.{IsClosure}
use Rattle.problem.specs.Limits.{is_within_limits, most_names}
use Rattle.table_plan.specs.Plans.{plan_of}
use Rattle.literal_table.specs.Tables.{block_name}
use Rattle.table_plan.specs.Numbers.{table_from}
use Rattle.cost_terms.specs.declared.weighted.Weighted.{Weighted}
use Rattle.cost_terms.specs.Weighed.{top_said}
use Rattle.cost_terms.specs.Terms.{Held}
use Rattle.cost_terms.specs.Sums.{cost_terms}

-- the weights of each list add up to less than 2^63
abbrev pub are_small : List (List Weighted) → Bool
are_small lists = list_all (λ terms. nat_lt (top_said terms) (2 ^ 63)) lists

-- within the limits, the terms of the 31 numbers are small over a problem's own table, whatever
-- formulas its conditions have
abbrev pub LimitsKeepSmall : Type 0
LimitsKeepSmall = (problem : Problem) (names : List Text) (n : ℕ) (held : Held) (order : List Text)
    → is_within_limits problem ≡ true → IsClosure problem names → length names ≤ most_names
    → IsPermutation (map block_name (table_from n (plan_of problem names)).blocks) order
    → are_small (cost_terms problem (table_from n (plan_of problem names)) held order) ≡ true
