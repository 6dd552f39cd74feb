-- Within the limits, all sums of costs are small.
use Rattle.std.proofs.Common.{◌≡◌, refl, sym, ap, subst, ◌∙◌, ℕ, ◌+◌, ◌*◌, ◌^◌, ◌<◌, ◌≤◌, Bool, true, false, List, [], ◌∷◌, ◌++◌, map, length, Option, Some, None, arith}
use Rattle.std.specs.List.{list_all, sum_by}
use Rattle.std.specs.List.Sorted.{IsPermutation}
use Rattle.std.specs.Ordering.{eq_by_cmp}
use Rattle.std.specs.Cmp.Lexicographic.{nat_list_cmp_total}
use Rattle.std.proofs.Math.Dec.{ltb}
use Rattle.std.proofs.lemmas.Bool.{and_parts, and_from, lt-ltb}
use Rattle.std.proofs.lemmas.List.Sorted.{sum_by-IsPermutation}
use Rattle.variant_values.specs.Texts.{byte_cmp, IsInByteOrder}
use Rattle.keyed_lists.proofs.RiseLaws.{rises_decides}
use Rattle.graph_core.specs.Graphs.{Text}
use Rattle.problem.specs.Problems.{Problem, variants_at}
use Rattle.problem.specs.Limits.{most_names}
use Rattle.possible_closure.proofs.Lists.{found-there}
use Rattle.literal_table.specs.Tables.{block_name, block_of}
use Rattle.literal_table.specs.declared.block.Block.{Block}
use Rattle.literal_table.proofs.Spelling.{found-named}
use Rattle.cost_terms.specs.declared.weighted.Weighted.{Weighted}
use Rattle.cost_terms.specs.Weighed.{top_said}
use Rattle.cost_terms.specs.Terms.{Held, presence_terms, criteria_terms}
use Rattle.cost_terms.specs.Sums.{part_terms, number_terms, cost_terms}
use Rattle.cost_terms.proofs.Lists.{sum-flat, sum-times}
use Rattle.ranked_costs.specs.Small.{LimitsKeepSmall}
use Rattle.ranked_costs.proofs.Sums.{sum-le-in, sum-add, sum-ones, sum-same}
use Rattle.ranked_costs.proofs.Digits.{part-top}
use Rattle.ranked_costs.proofs.Weights.{IsWithin, within}
use Rattle.ranked_costs.proofs.Tables.{rows-shared, Own, own-names}
use Rattle.ranked_costs.proofs.Criteria.{Bounded, EachBounded, presence, criteria-bounded}

all-joined : {X : Type 0} (p : X → Bool) (xs ys : List X) → list_all p xs ≡ true → list_all p ys ≡ true → list_all p (xs ++ ys) ≡ true
all-joined p [] ys front back = back
all-joined p (x ∷ xs) ys front back =
    let parts = and_parts (p x) (list_all p xs) front in
    and_from (p x) (list_all p (xs ++ ys)) parts.0 (all-joined p xs ys parts.1 back)

abbrev is_small : List Weighted → Bool
is_small terms = ltb (top_said terms) (2 ^ 63)

module _ (problem : Problem) (limits : IsWithin problem) (names : List Text) (rising : IsInByteOrder names)
    (few : length names ≤ most_names)
    (n : ℕ) (held : Held)
    (order : List Text) (ordered : IsPermutation (map block_name (Own problem names n).blocks) order) where
  abbrev Rows : Text → ℕ
  Rows name = length (variants_at problem name)

  -- a sum over the order is one over the names
  in-order : (f : Text → ℕ) → sum_by f order ≡ sum_by f names
  in-order f = sum_by-IsPermutation f (map block_name (Own problem names n).blocks) order ordered
      ∙ ap (sum_by f) (own-names problem names n)

  part-bounded : (built : Bool) (terms : Block → List Weighted) → Bounded problem limits names rising few n held terms → (name : Text)
      → top_said (part_terms built terms (block_of (Own problem names n) name)) ≤ Rows name * 2 ^ 29 + 2 ^ 52
  part-bounded built terms le name = part-bounded-cases (block_of (Own problem names n) name) refl
    where
      part-bounded-cases : (o : Option Block) → block_of (Own problem names n) name ≡ o
          → top_said (part_terms built terms o) ≤ Rows name * 2 ^ 29 + 2 ^ 52
      part-bounded-cases None is = omega arith
      part-bounded-cases (Some b) is =
          let there = (found-there (λ (c : Block). eq_by_cmp byte_cmp c.name name) (Own problem names n).blocks b is).0 in
          let here = subst (λ key. top_said (terms b) ≤ Rows key * 2 ^ 29 + 2 ^ 52)
          (found-named block_name (Own problem names n).blocks name b is) (le b there) in
          omega (arith, here, part-top built b.origins (terms b))

  number-top : (built : Bool) (terms : Block → List Weighted) → Bounded problem limits names rising few n held terms
      → top_said (number_terms built (Own problem names n) order terms) < 2 ^ 63
  number-top built terms le =
      let each = sum-le-in (λ name. top_said (part_terms built terms (block_of (Own problem names n) name)))
      (λ name. Rows name * 2 ^ 29 + 2 ^ 52) order
      (λ name there. part-bounded built terms le name) in
      let sum = sum-flat (λ (t : Weighted). t.weight) (λ name. part_terms built terms (block_of (Own problem names n) name)) order in
      let rows : sum_by Rows order ≤ 2 ^ 28 =
      subst (λ k. k ≤ 2 ^ 28) (sym (in-order Rows))
      (rows-shared problem limits names rising (λ recipe. recipe.variants) (λ recipe. omega arith)) in
      let size : length order ≤ most_names = subst (λ k. k ≤ most_names)
      (sym (sym (sum-ones order) ∙ in-order (λ name. 1) ∙ sum-ones names)) few in
      omega (
        arith,
        each,
        sum,
        rows,
        size,
        sum-add (λ name. Rows name * 2 ^ 29) (λ name. 2 ^ 52) order,
        sum-times Rows (2 ^ 29) order,
        sum-same (2 ^ 52) order,
      )

  number-small : (built : Bool) (terms : Block → List Weighted) → Bounded problem limits names rising few n held terms
      → is_small (number_terms built (Own problem names n) order terms) ≡ true
  number-small built terms le = lt-ltb (top_said (number_terms built (Own problem names n) order terms)) (2 ^ 63)
      (number-top built terms le)

  numbers-small : (built : Bool) (criteria : List (Block → List Weighted)) → EachBounded problem limits names rising few n held criteria
      → list_all is_small (map (number_terms built (Own problem names n) order) criteria) ≡ true
  numbers-small built [] le = refl
  numbers-small built (terms ∷ more) le = and_from (is_small (number_terms built (Own problem names n) order terms))
      (list_all is_small (map (number_terms built (Own problem names n) order) more)) (number-small built terms le.0)
      (numbers-small built more le.1)

  costs-small : list_all is_small (cost_terms problem (Own problem names n) held order) ≡ true
  unfolding cost_terms
  costs-small =
      let all = criteria-bounded problem limits names rising few n held in
      let criteria = criteria_terms problem (Own problem names n) held in
      all-joined is_small (map (number_terms true (Own problem names n) order) criteria)
      (number_terms true (Own problem names n) order presence_terms ∷ map (number_terms false (Own problem names n) order) criteria)
      (numbers-small true criteria all)
      (and_from (is_small (number_terms true (Own problem names n) order presence_terms))
      (list_all is_small (map (number_terms false (Own problem names n) order) criteria))
      (number-small true presence_terms (presence problem limits names rising few n held)) (numbers-small false criteria all))

-- within the limits all sums are small
pub limits-keep-small : LimitsKeepSmall
limits-keep-small problem names n held order limits closed few ordered =
    costs-small problem (within problem limits) names ((rises_decides byte_cmp nat_list_cmp_total names).0 closed.rising) few n
    held order ordered
