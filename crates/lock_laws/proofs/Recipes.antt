-- What recipes say has its forms.
use Rattle.std.proofs.Common.{◌≡◌, refl, true, List, Option, Some, None, All, is_some}
use Rattle.std.specs.Ordering.{eq_by_cmp}
use Rattle.std.specs.Str.{bytes_eq}
use Rattle.std.proofs.lemmas.Bool.{and_parts}
use Rattle.variant_values.specs.Texts.{byte_cmp}
use Rattle.graph_core.specs.Graphs.{Text, Content}
use Rattle.recipe_data.specs.declared.recipe.Recipe.{Recipe}
use Rattle.recipe_data.specs.declared.recipe.VariantRow.{VariantRow}
use Rattle.virtuals.specs.Virtuals.{recipe_name}
use Rattle.condition_rules.specs.Worlds.{recipe_of, rows}
use Rattle.condition_rules.specs.Holds.{governing, is_governed_by}
use Rattle.problem.specs.Problems.{Problem, recipe_at, variants_at, world_of}
use Rattle.graph_rules.proofs.Lists.{In, bytes_eq-same, find-in}
use Rattle.lock_laws.specs.Forms.{IsFormedProblem, IsFormedRecipe, IsFormedRow}
use Rattle.lock_laws.proofs.Each.{all-each, last-in, same-key}

-- the value of an option that has one
pub some-of : {T : Type 0} (o : Option T) → is_some o ≡ true → (x : T) × (o ≡ Some x)
some-of None h = absurd cc
some-of (Some x) h = (x, refl)

module _ (problem : Problem) (formed : IsFormedProblem problem) where
  -- a package's recipe has its forms, and its name
  pub recipe-is : (name : Text) (recipe : Recipe) → recipe_at problem name ≡ Some recipe → IsFormedRecipe recipe × (recipe.name ≡ name)
  unfolding recipe_of
  recipe-is name recipe e =
      let r = find-in (λ (x : Recipe). eq_by_cmp byte_cmp (recipe_name x) name) problem.recipes recipe e in
      (all-each IsFormedRecipe problem.recipes recipe formed.recipes r.0, same-key recipe.name name r.1)

  by-recipe : {R : Type 0} (field : Recipe → List R) (P : R → Type 0) → ((recipe : Recipe) → IsFormedRecipe recipe → All P (field recipe))
      → (name : Text) (o : Option Recipe) → recipe_at problem name ≡ o → (row : R) → In row (rows field o) → P row
  by-recipe field P each name None e row none = absurd none
  by-recipe field P each name (Some recipe) e row there = all-each P (field recipe) row (each recipe (recipe-is name recipe e).0) there

  -- each row of a package's recipe is as each row of a recipe that has its forms
  pub row-is : {R : Type 0} (field : Recipe → List R) (P : R → Type 0) → ((recipe : Recipe) → IsFormedRecipe recipe → All P (field recipe))
      → (name : Text) (row : R) → In row (rows field (recipe_at problem name)) → P row
  row-is field P each name row there = by-recipe field P each name (recipe_at problem name) refl row there

  -- the definition that governs a variant has its forms, and the variant's name
  pub governing-is : (graph : Content) (name variant : Text) (row : VariantRow)
      → governing (world_of problem) graph name variant ≡ Some row → IsFormedRow row × (row.name ≡ variant)
  unfolding governing
  governing-is graph name variant row e =
      let r = last-in (is_governed_by (world_of problem) graph name variant) (variants_at problem name) row e in (
        row-is (λ recipe. recipe.variants) IsFormedRow (λ recipe is. is.variants) name row r.0,
        bytes_eq-same row.name variant (and_parts (bytes_eq row.name variant) _ r.1).0,
      )
