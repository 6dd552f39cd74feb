-- How much the table of a problem's own plan has.
use Rattle.std.proofs.Common.{◌≡◌, refl, sym, ap, ◌∙◌, ℕ, ◌+◌, ◌^◌, ◌≤◌, true, List, [], ◌∷◌, map, length, Option, Some, None, Contains, ⊎_elim, inl, subst, arith}
use Rattle.std.specs.List.{filter, flat_map, list_any, sum_by}
use Rattle.std.specs.Ordering.{eq_by_cmp}
use Rattle.std.specs.Str.{bytes_eq}
use Rattle.std.specs.Cmp.Lexicographic.{bytes_decides}
use Rattle.std.proofs.lemmas.List.{length-map}
use Rattle.std.proofs.lemmas.List.Concat.{length-flat_map}
use Rattle.std.proofs.lemmas.List.Sums.{sum_by-cons, length-filter, count_by-le-length}
use Rattle.reachability.proofs.CountLaws.{has_first, has_later, first_or_later, image_of}
use Rattle.variant_values.specs.Texts.{byte_cmp, IsInByteOrder, with_texts}
use Rattle.keyed_lists.specs.Keyed.{find_key}
use Rattle.keyed_lists.specs.Given.{adds_or_none}
use Rattle.graph_core.specs.Graphs.{Text}
use Rattle.graph_core.specs.Given.{pairs_of}
use Rattle.graph_core.proofs.PairLaws.{tells_alike}
use Rattle.recipe_data.specs.declared.recipe.ProvideRow.{ProvideRow}
use Rattle.recipe_data.specs.declared.recipe.Recipe.{Recipe}
use Rattle.virtuals.specs.Virtuals.{recipe_name, provides_name, is_virtual}
use Rattle.graph_rules.proofs.Lists.{In, In-contains, In-flat_map, In-map, any-in}
use Rattle.possible_closure.proofs.Lists.{nothing, from_texts, in_texts, none_in_order, texts_in_order, no_more}
use Rattle.reachability.proofs.SpreadLaws.{from_filter}
use Rattle.condition_rules.specs.Words.{is_one_text}
use Rattle.condition_rules.specs.Worlds.{recipe_of, rows}
use Rattle.problem.specs.Problems.{Problem, recipe_at}
use Rattle.problem.specs.Closure.{next_names}
use Rattle.table_plan.specs.Plans.{possible_at, possible_edge, possible_edges, wanted_names, asked_virtuals, plan_of}
use Rattle.literal_table.specs.Tables as tables
use Rattle.literal_table.specs.Tables.{Table}
use Rattle.literal_table.specs.declared.block.Block.{Block}
use Rattle.table_plan.specs.Numbers.{numbered_run, block_width, widths, block_from, blocks_from, edge_from, edge_width, table_from}
use Rattle.problem.specs.Limits.{size_of_recipe, most_names}
use Rattle.ranked_costs.proofs.Sums.{sum-le-in, sum-same, found}
use Rattle.ranked_costs.proofs.Weights.{IsWithin}
use Rattle.ranked_costs.proofs.Values.{texts-few}

-- ---- what is numbered one after another

module _ {X Y : Type 0} (make : ℕ → X → Y) (wide : X → ℕ) where
  -- an element of a run is made of one of the list
  pub run-from : (n : ℕ) (xs : List X) (y : Y) → Contains (numbered_run make wide n xs) y → (m : ℕ) × (x : X) × Contains xs x
      × (make m x ≡ y)
  run-from n [] y there = absurd (omega (arith, there.1))
  run-from n (x ∷ xs) y there = ⊎_elim
      (λ same. (n, x, has_first x xs, same))
      (λ later. let rest = run-from (n + wide x) xs y later in (rest.0, rest.1, has_later x xs rest.1 rest.2, rest.3))
      (first_or_later (make n x) (numbered_run make wide (n + wide x) xs) y there)

  -- a run is as long as its list
  pub run-length : (n : ℕ) (xs : List X) → length (numbered_run make wide n xs) ≡ length xs
  run-length n [] = refl
  run-length n (x ∷ xs) = omega (arith, run-length (n + wide x) xs)

  -- a bound for the sum over a run
  pub run-sum : (f : Y → ℕ) (g : X → ℕ) (n : ℕ) (xs : List X) → ((m : ℕ) (x : X) → Contains xs x → f (make m x) ≤ g x)
      → sum_by f (numbered_run make wide n xs) ≤ sum_by g xs
  run-sum f g n [] le = omega arith
  run-sum f g n (x ∷ xs) le =
      let here = le n x (has_first x xs) in
      let rest = run-sum f g (n + wide x) xs (λ m y there. le m y (has_later x xs y there)) in
      omega (arith, here, rest, sum_by-cons f (make n x) (numbered_run make wide (n + wide x) xs), sum_by-cons g x xs)

-- ---- what is found at names that stand once

-- texts that test equal
pub eq-same : (a b : Text) → bytes_eq a b ≡ true → a ≡ b
eq-same a b = (bytes_decides a b).0

cmp-same : (a b : Text) → eq_by_cmp byte_cmp a b ≡ true → a ≡ b
cmp-same a b is = eq-same a b (sym (tells_alike a b) ∙ is)

rows-found : {R : Type 0} (field : Recipe → List R) (measure : List R → ℕ) → measure [] ≡ 0 → (o : Option Recipe)
    → measure (rows field o) ≡ adds_or_none (λ recipe. measure (field recipe)) o
rows-found field measure none None = none
rows-found field measure none (Some recipe) = refl

module _ (problem : Problem) (limits : IsWithin problem) (names : List Text) (rising : IsInByteOrder names) where
  -- the rows at all names are rows of recipes
  pub rows-shared : {R : Type 0} (field : Recipe → List R) → ((recipe : Recipe) → length (field recipe) ≤ size_of_recipe recipe)
      → sum_by (λ name. length (rows field (recipe_at problem name))) names ≤ 2 ^ 28
  unfolding recipe_of
  rows-shared field le =
      let each = sum-le-in (λ name. length (rows field (find_key byte_cmp recipe_name problem.recipes name)))
      (λ name. adds_or_none (λ recipe. length (field recipe)) (find_key byte_cmp recipe_name problem.recipes name)) names
      (λ name there. omega (arith, rows-found field length refl (find_key byte_cmp recipe_name problem.recipes name))) in
      let once = found (eq_by_cmp byte_cmp) cmp-same (λ (recipe : Recipe). length (field recipe)) recipe_name names rising
      problem.recipes in
      let all = sum-le-in (λ (recipe : Recipe). length (field recipe)) size_of_recipe problem.recipes (λ recipe there. le recipe) in
      omega (arith, limits.recipes, each, once, all)

  -- ---- virtuals

  -- the names that recipes provide
  abbrev provided : List Text
  provided = flat_map (λ (recipe : Recipe). map (λ (row : ProvideRow). row.name) recipe.provides) problem.recipes

  -- a virtual is one of them
  is-provided : (virtual : Text) → is_virtual problem.recipes virtual ≡ true → Contains provided virtual
  unfolding is_virtual provides_name
  is-provided virtual h =
      let recipe = any-in (λ (recipe : Recipe). list_any (λ row. bytes_eq row.name virtual) recipe.provides) problem.recipes h in
      let row = any-in (λ (row : ProvideRow). bytes_eq row.name virtual) recipe.0.provides recipe.2 in
      In-contains provided virtual (In-flat_map (λ (r : Recipe). map (λ (x : ProvideRow). x.name) r.provides) problem.recipes recipe.0
      virtual recipe.1
      (subst (λ n. In n (map (λ (x : ProvideRow). x.name) recipe.0.provides)) (eq-same row.0.name virtual row.2)
      (In-map (λ (x : ProvideRow). x.name) recipe.0.provides row.0 row.1)))

  -- few virtuals are asked for: each is one that a recipe provides, and stands once
  pub virtuals-few : length (asked_virtuals problem names) ≤ 2 ^ 28
  unfolding asked_virtuals
  virtuals-few =
      let wanted = filter (is_virtual problem.recipes) (flat_map (wanted_names problem) names) in
      let there = no_more (with_texts [] wanted) (with_texts [] provided) (texts_in_order [] wanted none_in_order)
      (texts_in_order [] provided none_in_order) (λ q asked. in_texts [] provided q (inl (is-provided q
      (from_filter (is_virtual problem.recipes) (flat_map (wanted_names problem) names) q
      (⊎_elim (λ has. has) (λ none. absurd (nothing q none)) (from_texts [] wanted q asked))).1))) in
      let each = sum-le-in (λ (recipe : Recipe). length (map (λ (row : ProvideRow). row.name) recipe.provides)) size_of_recipe
      problem.recipes (λ recipe of. omega (arith, length-map recipe.provides (λ (row : ProvideRow). row.name))) in
      omega (
        arith,
        limits.recipes,
        there,
        each,
        texts-few [] provided,
        length-flat_map (λ (recipe : Recipe). map (λ (row : ProvideRow). row.name) recipe.provides) problem.recipes,
      )

-- ---- the table

pairs-few : (names : List Text) → length names ≤ most_names → length (pairs_of names) ≤ 2 ^ 20
pairs-few names few =
    let each = sum-le-in (λ (parent : Text). length (map (λ child. let p : Text × Text = (parent, child) in p) names))
    (λ parent. most_names) names
    (λ parent there. omega (arith, length-map names (λ child. let p : Text × Text = (parent, child) in p))) in
    omega (
      arith,
      each,
      sum-same most_names names,
      length-flat_map
          (λ (parent : Text). map (λ child. let p : Text × Text = (parent, child) in p) names) names,
    )

module _ (problem : Problem) (names : List Text) (n : ℕ) where
  -- the problem's own table over these names, whose literals begin at a number
  abbrev pub Own : Table
  Own = table_from n (plan_of problem names)

  -- a block of the own table is made of what may be chosen
  pub own-block : (b : Block) → Contains Own.blocks b → (m : ℕ) × (name : Text) × (block_from m (possible_at problem name) ≡ b)
  unfolding table_from plan_of
  own-block b there =
      let at = run-from block_from block_width n (map (possible_at problem) names) b there in
      let from = image_of (possible_at problem) names at.1 at.2 in
      (at.0, from.0, ap (block_from at.0) from.2 ∙ at.3)

  names-in : (m : ℕ) (rest : List Text) → map tables.block_name (blocks_from m (map (possible_at problem) rest)) ≡ rest
  unfolding block_from possible_at
  names-in m [] = refl
  names-in m (name ∷ rest) = ap (λ more. name ∷ more) (names-in (m + block_width (possible_at problem name)) rest)

  -- its names are those of the closure
  pub own-names : map tables.block_name Own.blocks ≡ names
  unfolding table_from plan_of
  own-names = names-in n names

  -- it has few edges
  pub own-edges : length names ≤ most_names → length Own.edges ≤ 2 ^ 20
  unfolding table_from plan_of possible_edges
  own-edges few =
      let test = λ (pair : Text × Text). is_one_text (next_names problem pair.0) pair.1 in
      omega (
        arith,
        pairs-few names few,
        length-filter test (pairs_of names),
        count_by-le-length test (pairs_of names),
        run-length edge_from edge_width (n + widths (map (possible_at problem) names))
            (map (possible_edge problem) (filter test (pairs_of names))),
        length-map (filter test (pairs_of names)) (possible_edge problem),
      )
