-- The numbers of directives rise in each list of a recipe.
use Rattle.std.proofs.Common.{◌≡◌, refl, ap, subst, ◌∙◌, ℕ, ◌==◌, Bool, true, false, cond, ◌&&◌, List, [], ◌∷◌, length, get_or, ◌+◌, map, Option, Some, None, arith}
use Rattle.std.specs.List.{find, list_all}
use Rattle.std.specs.List.Sorted.{IsNonDecreasingBy}
use Rattle.std.specs.Option.{is_some}
use Rattle.std.specs.Ordering.{nat_cmp, is_lt, is_eq, eq_by_cmp, ordering_index, ordering_reverse}
use Rattle.std.specs.Cmp.{tied_itself, unsigned_Decides}
use Rattle.std.specs.FinMap.{nat_cmp-IsAntisymmetric}
use Rattle.std.specs.declared.cmp.Ordering.{Ordering}
use Rattle.std.specs.declared.cmp.Ordering.TheVariants.{Less, Equal, Greater}
use Rattle.std.proofs.lemmas.Bool.{and_parts}
use Rattle.std.proofs.lemmas.Bool.Decides.{same_from_decides}
use Rattle.std.proofs.lemmas.Cmp.{nat_cmp_total}
use Rattle.std.proofs.lemmas.List.Sorted.{searchable_from_sorted}
use Rattle.std.proofs.lemmas.Option.{none-some}
use Rattle.keyed_lists.specs.Keyed.{IsInOrder, rises}
use Rattle.keyed_lists.proofs.KeyedLaws.{key_less}
use Rattle.keyed_lists.proofs.RiseLaws.{rises_decides, rises_none}
use Rattle.graph_core.specs.Graphs.{Text}
use Rattle.condition_rules.specs.Worlds.{recipe_of, rows}
use Rattle.recipe_data.specs.Right.{is_right_recipe, is_distinct, has_right_default, is_local_row, numbers_of}
use Rattle.recipe_data.specs.declared.recipe.Recipe.{Recipe}
use Rattle.recipe_data.specs.declared.recipe.ConflictRow.{ConflictRow}
use Rattle.recipe_data.specs.declared.recipe.DependRow.{DependRow}
use Rattle.recipe_data.specs.declared.recipe.RequireRow.{RequireRow}
use Rattle.variant_values.specs.Texts.{byte_cmp}
use Rattle.problem.specs.Assembled.{is_assembled}
use Rattle.problem.specs.Problems.{Problem, recipe_at, depends_at, conflicts_at, requirements_at}

-- ---- lists in which numbers rise

-- how an element compares with a number
abbrev pub compared : {X : Type 0} → (X → ℕ) → ℕ → X → Ordering
compared number_of number x = nat_cmp (number_of x) number

module _ {X : Type 0} (number_of : X → ℕ) (xs : List X) (number : ℕ) where
  -- comparisons with a number rise
  pub comparisons-rise : IsInOrder nat_cmp number_of xs → IsNonDecreasingBy (λ x. ordering_index (nat_cmp (number_of x) number)) xs
  comparisons-rise rising = searchable_from_sorted nat_cmp_total number_of xs number
      (λ i d a b. ap is_lt (nat_cmp_total.antisymm (number_of (get_or xs (i + 1) d)) (number_of (get_or xs i d))
      ∙ ap ordering_reverse (key_less nat_cmp_total nat_cmp-IsAntisymmetric number_of xs i (i + 1) d rising (omega arith) b)))

-- numbers compare as equal where they are the same
pub tie-is-number : (m n : ℕ) → is_eq (nat_cmp m n) ≡ (m == n)
tie-is-number m n = same_from_decides (is_eq (nat_cmp m n)) (m == n) (
  λ e. nat_cmp-IsAntisymmetric m n (is-equal (nat_cmp m n) e),
  λ e. ap (λ k. is_eq (nat_cmp k n)) e ∙ ap is_eq (tied_itself nat_cmp_total n),
)
    (unsigned_Decides m n)
  where
    is-equal : (r : Ordering) → is_eq r ≡ true → r ≡ Equal
    is-equal Less e = absurd (cc)
    is-equal Equal e = refl
    is-equal Greater e = absurd (cc)

-- ---- right recipes

passes-found : {X : Type 0} (p q : X → Bool) (xs : List X) (x : X) → list_all p xs ≡ true → find q xs ≡ Some x → p x ≡ true
passes-found p q [] x all e = absurd (none-some x e)
passes-found p q (y ∷ ys) x all e = by-test (q y) e (passes-found p q ys x parts.1)
  where
    parts : (p y ≡ true) × (list_all p ys ≡ true)
    parts = and_parts (p y) (list_all p ys) all

    by-test : (b : Bool) → cond b (Some y) (find q ys) ≡ Some x → (find q ys ≡ Some x → p x ≡ true) → p x ≡ true
    by-test true is rest = let same : y ≡ x = cc in subst (λ z. p z ≡ true) same parts.0
    by-test false later rest = rest later

abbrev front : Recipe → Bool
front recipe = is_distinct (map (λ row. row.version) recipe.versions)
    && list_all has_right_default recipe.variants
    && list_all is_local_row recipe.provides
    && list_all (λ row. is_some row.part.name) recipe.depends

abbrev pub depends-number : DependRow → ℕ
depends-number row = row.number

abbrev pub conflicts-number : ConflictRow → ℕ
conflicts-number row = row.number

abbrev pub requires-number : RequireRow → ℕ
requires-number row = row.number

record HasRisingNumbers (recipe : Recipe) : Type 0 where
  depends : IsInOrder nat_cmp depends-number recipe.depends
  conflicts : IsInOrder nat_cmp conflicts-number recipe.conflicts
  requirements : IsInOrder nat_cmp requires-number recipe.requirements

numbers-rise : (recipe : Recipe) → is_right_recipe recipe ≡ true → HasRisingNumbers recipe
unfolding is_right_recipe
numbers-rise recipe right =
    let depends = rises nat_cmp (map depends-number recipe.depends) in
    let conflicts = rises nat_cmp (map conflicts-number recipe.conflicts) in
    let requirements = rises nat_cmp (map requires-number recipe.requirements) in
    let all = and_parts (front recipe && depends && conflicts && requirements)
    (length (numbers_of recipe) == length recipe.depends + length recipe.conflicts + length recipe.requirements) right in
    let most = and_parts (front recipe && depends && conflicts) requirements all.0 in
    let some = and_parts (front recipe && depends) conflicts most.0 in
    let first = and_parts (front recipe) depends some.0 in
    record {
      depends = (rises_decides nat_cmp nat_cmp_total (map depends-number recipe.depends)).0 first.1;
      conflicts = (rises_decides nat_cmp nat_cmp_total (map conflicts-number recipe.conflicts)).0 some.1;
      requirements = (rises_decides nat_cmp nat_cmp_total (map requires-number recipe.requirements)).0 most.1;
    }

module _ (problem : Problem) (assembled : is_assembled problem ≡ true) where
  recipe-right : (name : Text) (recipe : Recipe) → recipe_at problem name ≡ Some recipe → is_right_recipe recipe ≡ true
  unfolding is_assembled recipe_of
  recipe-right name recipe found =
      let names = rises byte_cmp (map (λ (r : Recipe). r.name) problem.recipes) in
      let front = and_parts (names && list_all is_right_recipe problem.recipes)
      (list_all (λ spec. is_some spec.top.name) problem.roots) assembled in
      passes-found is_right_recipe (λ (r : Recipe). eq_by_cmp byte_cmp r.name name) problem.recipes recipe
      (and_parts names (list_all is_right_recipe problem.recipes) front.0).1 found

  at-recipe : {R : Type 0} (number_of : R → ℕ) (field : Recipe → List R)
      → ((recipe : Recipe) → HasRisingNumbers recipe → IsInOrder nat_cmp number_of (field recipe))
      → (name : Text) → IsInOrder nat_cmp number_of (rows field (recipe_at problem name))
  at-recipe {R} number_of field rising name = by-recipe (recipe_at problem name) refl
    where
      by-recipe : (r : Option Recipe) → recipe_at problem name ≡ r → IsInOrder nat_cmp number_of (rows field r)
      by-recipe None e = rises_none nat_cmp
      by-recipe (Some recipe) e = rising recipe (numbers-rise recipe (recipe-right name recipe e))

  pub depends-rise : (name : Text) → IsInOrder nat_cmp depends-number (depends_at problem name)
  depends-rise = at-recipe depends-number (λ recipe. recipe.depends) (λ recipe rising. rising.depends)

  pub conflicts-rise : (name : Text) → IsInOrder nat_cmp conflicts-number (conflicts_at problem name)
  conflicts-rise = at-recipe conflicts-number (λ recipe. recipe.conflicts) (λ recipe rising. rising.conflicts)

  pub requirements-rise : (name : Text) → IsInOrder nat_cmp requires-number (requirements_at problem name)
  requirements-rise = at-recipe requires-number (λ recipe. recipe.requirements) (λ recipe rising. rising.requirements)
