-- The demands of few roots, among those of more.
use Rattle.std.proofs.Common.{◌≡◌, refl, sym, ap, ◌∙◌, ℕ, zero, suc, ◌+◌, ◌-◌, ◌<◌, ◌≤◌, arith, length, drop, length-append, append_assoc, List, [], ◌∷◌, ◌++◌, map, Bor}
use Rattle.std.specs.Prelude.{slice_get, Option, Some, None}
use Rattle.std.specs.List.{range_with_len}
use Rattle.std.specs.Option.{option_copied}
use Rattle.std.specs.Slice.{IsItemAt}
use Rattle.std.proofs.lemmas.List.FromFn.{length-map-range_with_len, get_or-map-range_with_len}
use Rattle.std.proofs.lemmas.Option.{slice_get-get_or, slice_get_past}
use Rattle.problem.specs.Demands.{AreDemandsOfMost, demands, directives_of, settings_of}
use Rattle.problem.specs.Problems.{Problem}
use Rattle.problem.specs.declared.demand.Demand.{Demand}
use Rattle.problem.specs.declared.demand.Demand.TheVariants.{Root}

-- ---- one list behind another

get_in_front : {X : Type 0} (front back : List X) (i : ℕ) → i < length front → slice_get (front ++ back) i ≡ slice_get front i
get_in_front [] back i h = absurd (omega (arith, h))
get_in_front (x ∷ front) back zero h = refl
get_in_front (x ∷ front) back (suc i) h = get_in_front front back i (omega arith)

get_behind : {X : Type 0} (front back : List X) (i : ℕ) → slice_get (front ++ back) (length front + i) ≡ slice_get back i
get_behind [] back i = let none : 0 + i ≡ i = omega arith in rw none refl
get_behind (y ∷ front) back i =
    let one : suc (length front) + i ≡ suc (length front + i) = omega arith in
    rw one (get_behind front back i)

get_dropped : {X : Type 0} (xs : List X) (n i : ℕ) → slice_get (drop n xs) i ≡ slice_get xs (i + n)
get_dropped [] zero i = refl
get_dropped [] (suc n) i = refl
get_dropped (x ∷ xs) zero i = let none : i + 0 ≡ i = omega arith in rw none refl
get_dropped (x ∷ xs) (suc n) i = let one : i + suc n ≡ suc (i + n) = omega arith in rw one (get_dropped xs n i)

-- what a look-up lends is what stands there
pub lent_at : {X : Type 0} (xs : List X) (i : ℕ) (r : Option (Bor X)) → IsItemAt xs i r → option_copied r ≡ slice_get xs i
lent_at xs i None is = sym (slice_get_past xs i is.3)
lent_at xs i (Some x) is = sym (slice_get-get_or xs i x.now is.3.0 ∙ ap Some (sym is.1))

-- ---- roots in front

abbrev pub root_demands : ℕ → List Demand
root_demands n = map Root (range_with_len 0 n)

root_at : (n i : ℕ) → i < n → slice_get (root_demands n) i ≡ Some (Root i)
root_at n i h =
    let long : length (root_demands n) ≡ n = length-map-range_with_len Root 0 n in
    slice_get-get_or (root_demands n) i (Root 0) (omega (arith, long))
    ∙ ap Some (get_or-map-range_with_len Root 0 n i i (Root 0) h (omega arith))

-- how many there are
pub count_of_few : (few most : ℕ) (rest : List Demand) → few ≤ most
    → length (root_demands most ++ rest) - (most - few) ≡ length (root_demands few ++ rest)
count_of_few few most rest h =
    let a : length (root_demands most ++ rest) ≡ length (root_demands most) + length rest = length-append (root_demands most) rest in
    let b : length (root_demands few ++ rest) ≡ length (root_demands few) + length rest = length-append (root_demands few) rest in
    let c : length (root_demands most) ≡ most = length-map-range_with_len Root 0 most in
    let d : length (root_demands few) ≡ few = length-map-range_with_len Root 0 few in
    omega (arith, a, b, c, d, h)

-- one of a root
pub root_of_few : (few most i : ℕ) (rest : List Demand) → few ≤ most → i < few
    → slice_get (root_demands most ++ rest) i ≡ slice_get (root_demands few ++ rest) i
root_of_few few most i rest h within =
    let c : length (root_demands most) ≡ most = length-map-range_with_len Root 0 most in
    let d : length (root_demands few) ≡ few = length-map-range_with_len Root 0 few in
    get_in_front (root_demands most) rest i (omega (arith, c, h, within)) ∙ root_at most i (omega (arith, h, within))
    ∙ sym (root_at few i within) ∙ sym (get_in_front (root_demands few) rest i (omega (arith, d, within)))

-- one behind the roots
pub later_of_few : (few most i : ℕ) (rest : List Demand) → few ≤ most → few ≤ i
    → slice_get (root_demands most ++ rest) (i + (most - few)) ≡ slice_get (root_demands few ++ rest) i
later_of_few few most i rest h behind =
    let c : length (root_demands most) ≡ most = length-map-range_with_len Root 0 most in
    let d : length (root_demands few) ≡ few = length-map-range_with_len Root 0 few in
    let a : i + (most - few) ≡ length (root_demands most) + (i - few) = omega (arith, c, h, behind) in
    let b : length (root_demands few) + (i - few) ≡ i = omega (arith, d, behind) in
    rw a (get_behind (root_demands most) rest (i - few)) ∙ sym (get_behind (root_demands few) rest (i - few))
    ∙ ap (slice_get (root_demands few ++ rest)) b

-- ---- of a problem whose list has the demands of more roots

module _ (problem : Problem) (most : ℕ) (list : List Demand) (asked : AreDemandsOfMost most problem.recipes problem.settings.packages list)
    (few : length problem.roots ≤ most) where
  abbrev rest : List Demand
  rest = directives_of problem.recipes ++ settings_of problem.settings.packages

  -- the list, with the roots in front
  is_list : list ≡ root_demands most ++ rest
  is_list = asked ∙ append_assoc (root_demands most) (directives_of problem.recipes) (settings_of problem.settings.packages)

  are_demands : demands problem ≡ root_demands (length problem.roots) ++ rest
  unfolding demands
  are_demands = append_assoc (root_demands (length problem.roots)) (directives_of problem.recipes) (settings_of problem.settings.packages)

  pub how_many : length list - (most - length problem.roots) ≡ length (demands problem)
  how_many = rw (is_list, are_demands) (count_of_few (length problem.roots) most rest few)

  pub of_root : (id : ℕ) → id < length problem.roots → slice_get list id ≡ slice_get (demands problem) id
  of_root id within = rw (is_list, are_demands) (root_of_few (length problem.roots) most id rest few within)

  pub of_later : (id : ℕ) → length problem.roots ≤ id
      → slice_get (drop (most - length problem.roots) list) id ≡ slice_get (demands problem) id
  of_later id behind =
      get_dropped list (most - length problem.roots) id
      ∙ rw (is_list, are_demands) (later_of_few (length problem.roots) most id rest few behind)

  -- so many more roots are in the list
  pub more_roots : most - length problem.roots ≤ length list
  more_roots =
      rw (is_list) (let a : length (root_demands most ++ rest) ≡ length (root_demands most) + length rest =
      length-append (root_demands most) rest in
      let c : length (root_demands most) ≡ most = length-map-range_with_len Root 0 most in
      omega (arith, a, c))
