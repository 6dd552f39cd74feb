-- The sort of declared versions: an order, and the number of those that come before one.
use Rattle.std.proofs.Common.{◌≡◌, refl, sym, ap, ◌∙◌, ℕ, ◌≤◌, Bool, true, false, List, [], ◌∷◌, length, map, find, count_by, cond, Option, Some, None, arith}
use Rattle.std.specs.List.{filter}
use Rattle.std.specs.List.Sorted.{IsPartitionPoint, IsPartitionedBy, IsPermutation, IsSortedBy}
use Rattle.std.specs.Ordering.{is_lt}
use Rattle.std.specs.Cmp.{IsTotalOrder, bool_cmp_total}
use Rattle.std.specs.Str.{bytes_eq}
use Rattle.std.proofs.lemmas.Cmp.{nat_cmp_total, on_total, then_total, back_total}
use Rattle.std.proofs.lemmas.List.{length-map, length-take-le}
use Rattle.std.proofs.lemmas.List.Sums.{length-filter}
use Rattle.std.proofs.lemmas.List.Sorted.{searchable_from_sorted, sum_by-IsPermutation}
use Rattle.version_order.proofs.OrderLaws.{version_total}
use Rattle.version_order.specs.Prefix.{is_special}
use Rattle.version_order.specs.declared.item.Item.{Item as Range}
use Rattle.graph_core.specs.Graphs.{Text}
use Rattle.recipe_data.specs.declared.recipe.VersionRow.{VersionRow}
use Rattle.keyed_lists.proofs.RunLaws.{filter_run, lt_parts}
use Rattle.keyed_lists.proofs.Lent.{filter_mapped}
use Rattle.problem.specs.Problems.{versions_at, package_entry_of, Problem}
use Rattle.graph_rules.specs.Weights.{row_cmp, listed_in, place_or_number, version_weight}
use Rattle.cost_vector.specs.Ranks.{Rank, rank, rank_cmp, place_among, weight_among}

-- the order of ranks is total
pub rank_total : IsTotalOrder rank_cmp
unfolding rank_cmp
rank_total =
    then_total (on_total (λ (r : Rank). r.preference) nat_cmp_total)
    (then_total (back_total (on_total (λ (r : Rank). r.row.preferred) bool_cmp_total))
    (then_total (on_total (λ (r : Rank). r.row.deprecated) bool_cmp_total)
    (then_total (on_total (λ (r : Rank). is_special r.row.version) bool_cmp_total)
    (back_total (on_total (λ (r : Rank). r.row.version) version_total)))))

-- ---- the number of those before one

module _ {X : Type 0} where
  count_at : (p : X → Bool) (xs : List X) (n : ℕ) → n ≤ length xs
      → IsPartitionPoint (λ x. p x ≡ true) (λ x. p x ≡ false) xs n → n ≡ count_by p xs
  count_at p xs n le at = sym (length-take-le n xs le)
      ∙ ap length (filter_run p xs 0 n (λ k d a b. absurd (omega (arith, b))) (λ k d a b. at.0 k d a (omega (arith, b)))
      (λ k d a b. at.1 k d (omega (arith, a)) b) (omega (arith, le)))
      ∙ length-filter p xs

  -- how many of an image pass
  pub mapped_count : {Y : Type 0} (f : X → Y) (p : Y → Bool) (xs : List X) → count_by p (map f xs) ≡ count_by (λ x. p (f x)) xs
  mapped_count f p xs = sym (length-filter p (map f xs)) ∙ ap length (filter_mapped f p xs)
      ∙ length-map (filter (λ x. p (f x)) xs) f ∙ length-filter (λ x. p (f x)) xs

-- a sort is parted by what comes before one rank
pub before_parts : (sorted : List Rank) (one : Rank) → IsSortedBy (λ a b. is_lt (rank_cmp a b)) sorted
    → IsPartitionedBy (λ other. is_lt (rank_cmp other one)) sorted
before_parts sorted one rises = lt_parts (λ other. rank_cmp other one) sorted
    (searchable_from_sorted rank_total (λ (r : Rank). r) sorted one rises)

-- the place where it is parted is how many come before
pub place_is : (sorted : List Rank) (one : Rank) (n : ℕ) → n ≤ length sorted
    → IsPartitionPoint (λ other. is_lt (rank_cmp other one) ≡ true) (λ other. is_lt (rank_cmp other one) ≡ false) sorted n
    → n ≡ count_by (λ other. is_lt (rank_cmp other one)) sorted
place_is sorted one n le at = count_at (λ other. is_lt (rank_cmp other one)) sorted n le at

-- the order of a list does not count
pub moved_place : (ranks sorted : List Rank) (one : Rank) → IsPermutation ranks sorted
    → count_by (λ other. is_lt (rank_cmp other one)) sorted ≡ count_by (λ other. is_lt (rank_cmp other one)) ranks
moved_place ranks sorted one moved = sum_by-IsPermutation _ ranks sorted moved

-- ---- ranks of rows

-- the same order as that of rows
is_row_cmp : (lists : List (List Range)) (a b : VersionRow) → rank_cmp (rank lists a) (rank lists b) ≡ row_cmp lists a b
unfolding rank_cmp row_cmp
is_row_cmp lists a b = refl

place_of_rank : (lists : List (List Range)) (rows : List VersionRow) (row : Option VersionRow) (one : Option Rank)
    → one ≡ elim row [ None ↦ None | Some r ↦ Some (rank lists r) ]
    → place_among (map (rank lists) rows) one ≡ place_or_number lists rows row
place_of_rank lists rows None one is = ap (place_among (map (rank lists) rows)) is ∙ length-map rows (rank lists)
place_of_rank lists rows (Some row) one is = ap (place_among (map (rank lists) rows)) is
    ∙ mapped_count (rank lists) (λ other. is_lt (rank_cmp other (rank lists row))) rows
    ∙ ap (λ (cmp : VersionRow → VersionRow → _). count_by (λ other. is_lt (cmp other row)) rows) (λ i a b. is_row_cmp lists a b i)

-- the first rank is that of the first row
first_rank : (lists : List (List Range)) (p : VersionRow → Bool) (rows : List VersionRow)
    → find (λ r. p r.row) (map (rank lists) rows) ≡ elim (find p rows) [ None ↦ None | Some r ↦ Some (rank lists r) ]
first_rank lists p [] = refl
first_rank lists p (row ∷ rows) = first_rank-cases (p row) (first_rank lists p rows)
  where
    first_rank-cases : (b : Bool) → find (λ r. p r.row) (map (rank lists) rows)
        ≡ elim (find p rows) [ None ↦ None | Some r ↦ Some (rank lists r) ]
        → cond b (Some (rank lists row)) (find (λ r. p r.row) (map (rank lists) rows))
        ≡ elim (cond b (Some row) (find p rows)) [ None ↦ None | Some r ↦ Some (rank lists r) ]
    first_rank-cases true e = refl
    first_rank-cases false e = e

weight_is : (lists : List (List Range)) (rows : List VersionRow) (version : Text)
    → weight_among (map (rank lists) rows) version ≡ place_or_number lists rows (find (λ row. bytes_eq row.version version) rows)
weight_is lists rows version = place_of_rank lists rows (find (λ row. bytes_eq row.version version) rows) _
    (first_rank lists (λ row. bytes_eq row.version version) rows)

weighs : (problem : Problem) (name : Text) (table : List Rank) (lists : List (List Range)) (rows : List VersionRow)
    → table ≡ map (rank lists) rows → lists ≡ listed_in (package_entry_of problem name) → rows ≡ versions_at problem name
    → (version : Text) → weight_among table version ≡ version_weight problem name version
unfolding version_weight
weighs problem name table lists rows is lists_are rows_are version =
    ap (λ t. weight_among t version) is ∙ weight_is lists rows version
    ∙ ap (λ ls. place_or_number ls rows (find (λ row. bytes_eq row.version version) rows)) lists_are
    ∙ ap (λ rs. place_or_number (listed_in (package_entry_of problem name)) rs (find (λ row. bytes_eq row.version version) rs)) rows_are

-- the weights of all choices
pub all_weigh : {L : Type 0} (problem : Problem) (name : Text) (table : List Rank) (lists : List (List Range)) (rows : List VersionRow)
    → table ≡ map (rank lists) rows → lists ≡ listed_in (package_entry_of problem name) → rows ≡ versions_at problem name
    → (choices : List (Text × L))
    → map {B = ℕ × L} (λ c. (weight_among table c.0, c.1)) choices ≡ map {B = ℕ × L} (λ c. (version_weight problem name c.0, c.1)) choices
all_weigh {L = L} problem name table lists rows is lists_are rows_are choices =
    ap (λ (weight : Text → ℕ). map {B = ℕ × L} (λ c. (weight c.0, c.1)) choices)
    (λ i version. weighs problem name table lists rows is lists_are rows_are version i)
