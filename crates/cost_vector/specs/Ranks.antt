-- Declared versions with their places among the settings' lists.
use Rattle.std.specs.Prelude.{ℕ, List, length, find, count_by, Option, Some, None}
use Rattle.std.specs.Str.{bytes_eq}
use Rattle.std.specs.Ordering.{ordering_then, nat_cmp, bool_cmp, is_lt}
use Rattle.std.specs.declared.cmp.Ordering.{Ordering}
use Rattle.version_order.specs.Order.{version_cmp}
use Rattle.version_order.specs.Prefix.{is_special}
use Rattle.version_order.specs.declared.item.Item.{Item as Range}
use Rattle.graph_core.specs.Graphs.{Text}
use Rattle.recipe_data.specs.declared.recipe.VersionRow.{VersionRow}
use Rattle.graph_rules.specs.Weights.{preference}

pub record Rank : Type 0 where
  pub preference : ℕ
  pub row : VersionRow

abbrev pub rank : List (List Range) → VersionRow → Rank
rank lists row = record { preference = preference lists row.version; row = row }

-- the sort of declared versions, where the places among the lists are known
unfoldable pub rank_cmp : Rank → Rank → Ordering
rank_cmp a b =
    ordering_then (nat_cmp a.preference b.preference)
    (ordering_then (bool_cmp b.row.preferred a.row.preferred)
    (ordering_then (bool_cmp a.row.deprecated b.row.deprecated)
    (ordering_then (bool_cmp (is_special a.row.version) (is_special b.row.version))
    (version_cmp b.row.version a.row.version))))

-- how many come before this one in the sort, or how many there are
abbrev pub place_among : List Rank → Option Rank → ℕ
place_among ranks None = length ranks
place_among ranks (Some one) = count_by (λ other. is_lt (rank_cmp other one)) ranks

-- the weight of a version among these
abbrev pub weight_among : List Rank → Text → ℕ
weight_among ranks version = place_among ranks (find (λ r. bytes_eq r.row.version version) ranks)
