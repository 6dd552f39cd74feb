-- What one block of a problem's own table adds to each criterion, at most.
use Rattle.std.proofs.Common.{◌≡◌, refl, sym, ap, subst, ℕ, ◌+◌, ◌*◌, ◌^◌, ◌≤◌, Bool, true, false, cond, List, [], ◌∷◌, map, length, Contains, arith, lit<}
use Rattle.std.specs.List.{flat_map, sum_by, count_by}
use Rattle.std.specs.Str.{bytes_eq}
use Rattle.std.proofs.lemmas.List.{length-map}
use Rattle.std.proofs.lemmas.List.Kept.{IsStrictlySortedBy-filter}
use Rattle.std.proofs.lemmas.List.Sums.{length-filter}
use Rattle.reachability.proofs.CountLaws.{image_of}
use Rattle.variant_values.specs.Texts.{byte_cmp, IsInByteOrder}
use Rattle.clause_store.specs.declared.Lit.{Lit}
use Rattle.clause_formulas.specs.Statements.{Statement, atom}
use Rattle.graph_core.specs.Graphs.{Text}
use Rattle.recipe_data.specs.declared.recipe.VariantRow.{VariantRow}
use Rattle.condition_rules.specs.Words.{is_one_text}
use Rattle.problem.specs.Problems.{Problem, variants_at}
use Rattle.problem.specs.Closure.{possible_providers}
use Rattle.graph_rules.specs.declared.criterion.TheConstants.{CRITERIA}
use Rattle.graph_rules.specs.declared.criterion.Attribute.{Attribute}
use Rattle.graph_rules.specs.declared.criterion.Attribute.TheVariants as attributes
use Rattle.graph_rules.specs.declared.criterion.Summed.{Summed}
use Rattle.graph_rules.specs.declared.criterion.Summed.TheVariants as summands
use Rattle.graph_rules.specs.declared.criterion.Criterion.{Criterion}
use Rattle.graph_rules.specs.declared.criterion.Criterion.TheVariants as kinds
use Rattle.graph_rules.specs.Weights.{version_weight, is_deprecated, os_weight, target_weight, compiler_weight, provider_weight}
use Rattle.possible_closure.proofs.Lists.{none_in_order, texts_in_order}
use Rattle.table_plan.specs.Plans.{variant_names, variant_values, possible_at, asked_virtuals, possible_packages, plan_of}
use Rattle.literal_table.specs.Choices.{Choices, passing}
use Rattle.literal_table.specs.declared.block.Block.{Block}
use Rattle.table_plan.specs.Numbers.{edge_widths, positive_lit, width_of, widths, numbered, variants_from, block_from, provider_from, providers_from, table_from}
use Rattle.cost_terms.specs.declared.weighted.Weighted.{Weighted}
use Rattle.cost_terms.specs.Weighed.{top_said}
use Rattle.cost_terms.specs.Differ.{is_any_text, is_some_compiler, same_compilers}
use Rattle.cost_terms.specs.Governing.{Row, of_variant, other_terms, unused_terms, variant_terms}
use Rattle.cost_terms.specs.Terms.{Held, is_root_name, at_root_terms, off_root_terms, presence_terms, deprecated_terms, version_terms, os_terms, target_terms, compiler_terms, rows_at, over_variants_terms, other_values_terms, unused_defaults_terms, virtual_terms, provider_terms, edges_terms, compilers_differ, os_differ, targets_differ, compared, summed_terms, terms_of, criteria_terms}
use Rattle.cost_terms.proofs.Lists.{sum-map, sum-flat}
use Rattle.problem.specs.Limits.{set_members, most_names}
use Rattle.ranked_costs.proofs.Sums.{sum-le-in, sum-same, once, shared}
use Rattle.ranked_costs.proofs.Digits.{weights-top}
use Rattle.ranked_costs.proofs.Weights.{IsWithin, rows-in, deprecated-few, version-few, os-few, target-few, compiler-few, provider-few}
use Rattle.ranked_costs.proofs.Values.{values-few}
use Rattle.ranked_costs.proofs.Tables.{run-length, run-sum, eq-same, virtuals-few, Own, own-block, own-edges}
use Rattle.ranked_costs.proofs.Terms.{other-top, unused-top, governing-top, formulas-sum, differ-top, edges-top, passing-numbered}

module _ (problem : Problem) (limits : IsWithin problem) (names : List Text) (rising : IsInByteOrder names)
    (few : length names ≤ most_names)
    (n : ℕ) (held : Held) where
  -- the bound of all criteria: by the definitions of variants, and what is left
  abbrev pub Bounded : (Block → List Weighted) → Type 0
  Bounded terms = (b : Block) → Contains (Own problem names n).blocks b
      → top_said (terms b) ≤ length (variants_at problem b.name) * 2 ^ 29 + 2 ^ 52

  -- ---- roots, presence and weights

  at-root : (terms : Block → List Weighted) → Bounded terms → Bounded (at_root_terms problem terms)
  at-root terms le b there = at-root-cases (is_root_name problem b.name)
    where
      at-root-cases : (c : Bool) → top_said (cond c (terms b) []) ≤ length (variants_at problem b.name) * 2 ^ 29 + 2 ^ 52
      at-root-cases true = le b there
      at-root-cases false = omega arith

  off-root : (terms : Block → List Weighted) → Bounded terms → Bounded (off_root_terms problem terms)
  off-root terms le b there = off-root-cases (is_root_name problem b.name)
    where
      off-root-cases : (c : Bool) → top_said (cond c [] (terms b)) ≤ length (variants_at problem b.name) * 2 ^ 29 + 2 ^ 52
      off-root-cases true = omega arith
      off-root-cases false = le b there

  -- one for the node
  pub presence : Bounded presence_terms
  presence b there = omega arith

  deprecated : Bounded (deprecated_terms problem)
  deprecated b there =
      omega (
        arith,
        weights-top (λ version. cond (is_deprecated problem b.name version) 1 0) (2 ^ 28) (deprecated-few problem limits b.name)
            (lit< tt) b.versions,
      )

  versions : Bounded (version_terms problem)
  versions b there =
      omega (arith, weights-top (version_weight problem b.name) (2 ^ 28) (version-few problem limits b.name) (lit< tt) b.versions)

  systems : Bounded (os_terms problem)
  systems b there = omega (arith, weights-top (os_weight problem) (2 ^ 28) (os-few problem limits) (lit< tt) b.os)

  targets : Bounded (target_terms problem)
  targets b there = omega (arith, weights-top (target_weight problem) (2 ^ 28) (target-few problem limits) (lit< tt) b.targets)

  compilers : Bounded (compiler_terms problem)
  compilers b there = omega (arith, weights-top (compiler_weight problem) (2 ^ 28) (compiler-few problem limits) (lit< tt) b.compilers)

  -- ---- variants

  names-rise : (name : Text) → IsInByteOrder (variant_names problem name)
  unfolding variant_names
  names-rise name = texts_in_order [] _ none_in_order

  abbrev With : Text → Text → Text × List Text
  With name variant = (variant, variant_values problem name variant)

  module _ (terms : Row → Choices Text → List Weighted) (f : VariantRow → ℕ)
      (le : (r : Row) (values : Choices Text) → length values ≤ 2 ^ 29 → top_said (terms r values) ≤ f r.0) where
    variant-top : (name : Text) (m : ℕ) (w : Text × List Text) → Contains (map (With name) (variant_names problem name)) w
        → top_said (variant_terms terms (rows_at problem held name) (w.0, numbered m w.1)) ≤ sum_by (λ (r : Row). f r.0)
        (of_variant w.0 (rows_at problem held name))
    variant-top name m w there =
        let from = image_of (With name) (variant_names problem name) w there in
        let same : length (variant_values problem name from.0) ≡ length w.1 = ap (λ (u : Text × List Text). length u.1) from.2 in
        let short : length (numbered m w.1) ≤ 2 ^ 29 =
        omega (
          arith,
          same,
          values-few problem limits name from.0,
          run-length (λ (m : ℕ) (x : Text). let c : Text × Lit = (x, positive_lit m) in
              c) (λ x. 1) m w.1,
        ) in
        governing-top terms f (numbered m w.1) (λ r. le r (numbered m w.1) short) (of_variant w.0 (rows_at problem held name))

    variants-top : (name : Text) (k : ℕ)
        → top_said (flat_map (variant_terms terms (rows_at problem held name))
        (variants_from k (map (With name) (variant_names problem name))))
        ≤ sum_by f (variants_at problem name)
    variants-top name k =
        let told = variants_from k (map (With name) (variant_names problem name)) in
        let each = run-sum (λ (m : ℕ) (w : Text × List Text). let u : Text × Choices Text = (w.0, numbered m w.1) in
        u) (λ (w : Text × List Text). length w.1)
        (λ u. top_said (variant_terms terms (rows_at problem held name) u))
        (λ (w : Text × List Text). sum_by (λ (r : Row). f r.0) (of_variant w.0 (rows_at problem held name)))
        k (map (With name) (variant_names problem name)) (λ m w there. variant-top name m w there) in
        let mapped = sum-map (λ (w : Text × List Text). sum_by (λ (r : Row). f r.0) (of_variant w.0 (rows_at problem held name)))
        (With name) (variant_names problem name) in
        let apart = shared bytes_eq eq-same (λ (r : Row). f r.0) (λ (r : Row). r.0.name) (variant_names problem name) (names-rise name)
        (rows_at problem held name) in
        omega (
          arith,
          each,
          mapped,
          apart,
          formulas-sum f (variants_at problem name) (held name),
          sum-flat (λ (t : Weighted). t.weight) (variant_terms terms (rows_at problem held name)) told,
        )

    over-top : (name : Text) (m : ℕ)
        → top_said (over_variants_terms terms problem held (block_from m (possible_at problem name)))
        ≤ sum_by f (variants_at problem (block_from m (possible_at problem name)).name)
    unfolding block_from possible_at
    over-top name m =
        let p = possible_at problem name in
        variants-top name (m + 1 + width_of p.origins + width_of p.versions)

    over-block : (b : Block) → Contains (Own problem names n).blocks b
        → top_said (over_variants_terms terms problem held b) ≤ sum_by f (variants_at problem b.name)
    over-block b there =
        let own = own-block problem names n b there in
        subst (λ (c : Block). top_said (over_variants_terms terms problem held c) ≤ sum_by f (variants_at problem c.name)) own.2
        (over-top own.1 own.0)

  others : Bounded (other_values_terms problem held)
  others b there =
      let all = over-block other_terms (λ row. 2 ^ 29) (λ r values short. omega (arith, short, other-top r values)) b there in
      omega (arith, all, sum-same (2 ^ 29) (variants_at problem b.name))

  unused : Bounded (unused_defaults_terms problem held)
  unused b there =
      let all = over-block unused_terms (λ row. length row.default) (λ r values short. unused-top r values) b there in
      let sets = sum-le-in (λ (row : VariantRow). length row.default) set_members (variants_at problem b.name) (λ row there. omega arith) in
      omega (arith, all, sets, rows-in problem limits (λ recipe. recipe.variants) (sum_by set_members) refl (λ recipe. omega arith) b.name)

  -- ---- providers

  packages-rise : (virtual : Text) → IsInByteOrder (possible_packages problem names virtual)
  unfolding possible_packages
  packages-rise virtual = IsStrictlySortedBy-filter byte_cmp (is_one_text (possible_providers problem virtual)) names rising

  abbrev Provided : Text → Text × List Text
  Provided virtual = (virtual, possible_packages problem names virtual)

  virtual-top : (name : Text) (m : ℕ) (w : Text × List Text) → Contains (map Provided (asked_virtuals problem names)) w
      → top_said (virtual_terms problem name (provider_from m w)) ≤ 2 ^ 24
  virtual-top name m w there =
      let from = image_of Provided (asked_virtuals problem names) w there in
      let order : IsInByteOrder w.1 = subst (λ (u : Text × List Text). IsInByteOrder u.1) from.2 (packages-rise from.0) in
      let here = passing (λ provider. bytes_eq provider name) (numbered m w.1) in
      let single : count_by (λ provider. bytes_eq provider name) w.1 ≤ 1 =
      once (λ a b. bytes_eq b a) (λ a b is. sym (eq-same b a is)) name 1 w.1 order in
      let each = sum-le-in (λ (c : Text × Lit). provider_weight problem (w.0, c.0)) (λ c. 2 ^ 24) here
      (λ c there. provider-few problem limits (w.0, c.0)) in
      omega (
        arith,
        each,
        single,
        sum-same (2 ^ 24) here,
        passing-numbered (λ provider. bytes_eq provider name) m w.1,
        length-filter (λ (provider : Text). bytes_eq provider name) w.1,
        sum-map (λ (t : Weighted). t.weight) (λ (c : Text × Lit). record {
          weight = provider_weight problem (w.0, c.0);
          formula =
              atom c.1;
        }) here,
      )

  virtuals-top : (name : Text) (k : ℕ) → top_said
      (flat_map (virtual_terms problem name) (providers_from k (map Provided (asked_virtuals problem names)))) ≤ 2 ^ 52
  virtuals-top name k =
      let each = run-sum provider_from (λ (w : Text × List Text). length w.1) (λ q. top_said (virtual_terms problem name q)) (λ w. 2 ^ 24) k
      (map Provided (asked_virtuals problem names)) (λ m w there. virtual-top name m w there) in
      omega (
        arith,
        each,
        virtuals-few problem limits names rising,
        sum-same (2 ^ 24) (map Provided (asked_virtuals problem names)),
        length-map (asked_virtuals problem names) Provided,
        sum-flat (λ (t : Weighted). t.weight) (virtual_terms problem name) (providers_from k (map Provided (asked_virtuals problem names))),
      )

  providers : Bounded (provider_terms problem (Own problem names n))
  unfolding table_from plan_of
  providers b there =
      let plan = plan_of problem names in
      let all : top_said (provider_terms problem (Own problem names n) b) ≤ 2 ^ 52 =
      virtuals-top b.name (n + widths plan.nodes + edge_widths plan.edges) in
      omega arith

  -- ---- edges

  edges : (terms : Statement → Block → Block → List Weighted) → ((there : Statement) (a b : Block) → top_said (terms there a b) ≤ 1)
      → Bounded (edges_terms terms (Own problem names n))
  edges terms le b there = omega (arith, edges-top terms le (Own problem names n) b, own-edges problem names n few)

  -- ---- all criteria

  -- each of these lists is bounded at every block
  abbrev pub EachBounded : List (Block → List Weighted) → Type 0
  EachBounded [] = Unit {0}
  EachBounded (terms ∷ more) = Bounded terms × EachBounded more

  compared-bounded : (attribute : Attribute) → Bounded (edges_terms (compared attribute) (Own problem names n))
  compared-bounded attributes.Compiler =
      edges compilers_differ (λ there a b. differ-top is_some_compiler same_compilers there a.compilers b.compilers)
  compared-bounded attributes.Os = edges os_differ (λ there a b. differ-top is_any_text bytes_eq there a.os b.os)
  compared-bounded attributes.Target = edges targets_differ (λ there a b. differ-top is_any_text bytes_eq there a.targets b.targets)

  summed-bounded : (summed : Summed) → Bounded (summed_terms problem (Own problem names n) held summed)
  unfolding summed_terms
  summed-bounded summands.Node = presence
  summed-bounded summands.Deprecated = deprecated
  summed-bounded summands.Version = versions
  summed-bounded summands.OtherValues = others
  summed-bounded summands.UnusedDefaults = unused
  summed-bounded summands.Providers = providers
  summed-bounded (summands.Edges attribute) = compared-bounded attribute
  summed-bounded summands.Os = systems
  summed-bounded summands.Target = targets
  summed-bounded summands.Compiler = compilers

  criterion-bounded : (criterion : Criterion) → Bounded (terms_of problem (Own problem names n) held criterion)
  criterion-bounded (kinds.All summed) = summed-bounded summed
  criterion-bounded (kinds.Roots summed) = at-root (summed_terms problem (Own problem names n) held summed) (summed-bounded summed)
  criterion-bounded (kinds.Others summed) = off-root (summed_terms problem (Own problem names n) held summed) (summed-bounded summed)

  rows-bounded : (rows : List Criterion) → EachBounded (map (terms_of problem (Own problem names n) held) rows)
  rows-bounded [] = tt
  rows-bounded (row ∷ rows) = (criterion-bounded row, rows-bounded rows)

  -- each criterion is bounded
  pub criteria-bounded : EachBounded (criteria_terms problem (Own problem names n) held)
  unfolding criteria_terms
  criteria-bounded = rows-bounded CRITERIA
