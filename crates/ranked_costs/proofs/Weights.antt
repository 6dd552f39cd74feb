-- No weight is more than the limits allow.
use Rattle.std.proofs.Common.{◌≡◌, refl, ℕ, ◌^◌, ◌≤◌, Bool, true, false, ◌&&◌, not, cond, List, [], length, Option, Some, None, find, arith}
use Rattle.std.specs.List.{position_or_len}
use Rattle.std.specs.Ordering.{is_lt, eq_by_cmp}
use Rattle.std.specs.Str.{bytes_eq}
use Rattle.std.proofs.lemmas.Bool.{leb-true, and_parts}
use Rattle.std.proofs.Math.Dec.{leb}
use Rattle.std.proofs.lemmas.List.Sums.{prefix_len-le-length, count_by-le-length}
use Rattle.version_order.specs.declared.item.Item.{Item as Range}
use Rattle.graph_core.specs.Graphs.{Text}
use Rattle.graph_core.specs.declared.node.Compiler.{Compiler}
use Rattle.recipe_data.specs.declared.recipe.Recipe.{Recipe}
use Rattle.recipe_data.specs.declared.recipe.VersionRow.{VersionRow}
use Rattle.keyed_lists.specs.Keyed.{find_key}
use Rattle.variant_values.specs.Texts.{byte_cmp}
use Rattle.virtuals.specs.Virtuals.{recipe_name}
use Rattle.condition_rules.specs.Worlds.{recipe_of, rows}
use Rattle.problem.specs.Problems.{Problem, recipe_at, versions_at, package_entry_of, same_compiler}
use Rattle.graph_rules.specs.Weights.{row_cmp, place_or_number, listed_in, version_weight, is_deprecated, os_weight, target_weight, compiler_weight, packages_in, provider_weight}
use Rattle.possible_closure.proofs.Lists.{found-there}
use Rattle.problem.specs.Limits.{is_within_limits, size_of_recipes, size_of_settings, size_of_database, size_of_recipe, provider_names}
use Rattle.ranked_costs.proofs.Sums.{sum-at}

place-le : {X : Type 0} (p : X → Bool) (xs : List X) → position_or_len p xs ≤ length xs
place-le p xs = prefix_len-le-length (λ x. not (p x)) xs

-- ---- the limits

pub record IsWithin (problem : Problem) : Type 0 where
  -- rows of recipes
  pub recipes : size_of_recipes problem.recipes ≤ 2 ^ 28
  -- rows of settings
  pub settings : size_of_settings problem.settings ≤ 2 ^ 24
  pub database : size_of_database problem.database ≤ 2 ^ 26

-- a problem within the limits
pub within : (problem : Problem) → is_within_limits problem ≡ true → IsWithin problem
unfolding is_within_limits
within problem is =
    let last = and_parts (leb (size_of_recipes problem.recipes) (2 ^ 28) && leb (size_of_settings problem.settings) (2 ^ 24))
    (leb (size_of_database problem.database) (2 ^ 26)) is in
    let first = and_parts (leb (size_of_recipes problem.recipes) (2 ^ 28)) (leb (size_of_settings problem.settings) (2 ^ 24)) last.0 in
    record {
      recipes = leb-true (size_of_recipes problem.recipes) (2 ^ 28) first.0;
      settings = leb-true (size_of_settings problem.settings) (2 ^ 24) first.1;
      database = leb-true (size_of_database problem.database) (2 ^ 26) last.1;
    }

module _ (problem : Problem) (limits : IsWithin problem) where
  -- ---- rows of one package

  rows-of : {R : Type 0} (field : Recipe → List R) (measure : List R → ℕ) → measure [] ≡ 0
      → ((recipe : Recipe) → measure (field recipe) ≤ size_of_recipe recipe)
      → (name : Text) (o : Option Recipe) → find_key byte_cmp recipe_name problem.recipes name ≡ o
      → measure (rows field o) ≤ size_of_recipes problem.recipes
  rows-of field measure none le name None is = omega arith
  rows-of field measure none le name (Some recipe) is =
      omega (
        arith,
        le recipe,
        sum-at size_of_recipe problem.recipes recipe
            (found-there (λ (r : Recipe). eq_by_cmp byte_cmp r.name name) problem.recipes recipe is).0,
      )

  -- a field of one recipe
  pub rows-in : {R : Type 0} (field : Recipe → List R) (measure : List R → ℕ) → measure [] ≡ 0
      → ((recipe : Recipe) → measure (field recipe) ≤ size_of_recipe recipe) → (name : Text)
      → measure (rows field (recipe_at problem name)) ≤ 2 ^ 28
  unfolding recipe_of
  rows-in field measure none le name =
      omega (arith, limits.recipes, rows-of field measure none le name (find_key byte_cmp recipe_name problem.recipes name) refl)

  versions-few : (name : Text) → length (versions_at problem name) ≤ 2 ^ 28
  versions-few name = rows-in (λ recipe. recipe.versions) length refl (λ recipe. omega arith) name

  -- ---- weights

  -- weights of deprecated versions; so with the others
  pub deprecated-few : (name version : Text) → cond (is_deprecated problem name version) 1 0 ≤ 2 ^ 28
  deprecated-few name version = deprecated-few-cases (is_deprecated problem name version)
    where
      deprecated-few-cases : (b : Bool) → cond b 1 0 ≤ 2 ^ 28
      deprecated-few-cases true = omega arith
      deprecated-few-cases false = omega arith

  -- a version's weight is at most the number of its package's versions, of which there are few
  pub version-few : (name version : Text) → version_weight problem name version ≤ 2 ^ 28
  unfolding version_weight
  version-few name version = version-few-cases (listed_in (package_entry_of problem name))
      (find (λ row. bytes_eq row.version version) (versions_at problem name))
    where
      version-few-cases : (lists : List (List Range)) (o : Option VersionRow) → place_or_number lists (versions_at problem name) o ≤ 2 ^ 28
      version-few-cases lists None = versions-few name
      version-few-cases lists (Some row) =
          omega (arith, versions-few name, count_by-le-length (λ other. is_lt (row_cmp lists other row)) (versions_at problem name))

  -- an operating system's is at most the number of those that the settings list
  pub os-few : (name : Text) → os_weight problem name ≤ 2 ^ 28
  os-few name = omega (arith, limits.settings, place-le (bytes_eq name) problem.settings.os)

  -- so is a target's
  pub target-few : (name : Text) → target_weight problem name ≤ 2 ^ 28
  target-few name = omega (arith, limits.settings, place-le (λ entry. bytes_eq name entry.name) problem.settings.targets)

  -- so is a compiler's, and nothing where there is none
  pub compiler-few : (compiler : Option Compiler) → compiler_weight problem compiler ≤ 2 ^ 28
  compiler-few None = omega arith
  compiler-few (Some compiler) =
      omega (arith, limits.settings, place-le (λ entry. same_compiler entry.compiler compiler) problem.settings.compilers)

  -- a provider's is at most the number of those that the settings list for its virtual
  pub provider-few : (p : Text × Text) → provider_weight problem p ≤ 2 ^ 24
  provider-few p = provider-few-cases (find (λ q. bytes_eq q.0 p.0) problem.settings.providers) refl
    where
      provider-few-cases : (o : Option (Text × List Text)) → find (λ q. bytes_eq q.0 p.0) problem.settings.providers ≡ o
          → position_or_len (bytes_eq p.1) (packages_in o) ≤ 2 ^ 24
      provider-few-cases None is = omega arith
      provider-few-cases (Some q) is = omega (
        arith,
        limits.settings,
        place-le (bytes_eq p.1) q.1,
        sum-at provider_names problem.settings.providers q
            (found-there (λ (r : Text × List Text). bytes_eq r.0 p.0) problem.settings.providers q is).0,
      )
