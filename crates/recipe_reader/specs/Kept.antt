-- What every recipe that was read has.
use Rattle.std.specs.Prelude.{◌≡◌, ℕ, nat_le, ◌&&◌, Bool, true, List, [], ◌∷◌, map}
use Rattle.std.specs.List.{list_all}
use Rattle.std.specs.Ordering.{nat_cmp}
use Rattle.keyed_lists.specs.Keyed.{rises}
use Rattle.spec_grammar.specs.Signs.{is_name}
use Rattle.recipe_data.specs.Right.{is_right_recipe}
use Rattle.recipe_data.specs.declared.recipe.Recipe.{Recipe}

-- each number is at most the next
abbrev pub climbs : List ℕ → Bool
climbs [] = true
climbs (k ∷ []) = true
climbs (k ∷ j ∷ more) = nat_le k j && climbs (j ∷ more)

-- besides what is right, versions and variants stand in the order of their numbers, and so do the rows of
-- `provides`, which share the number of their directive; variants and virtuals have a NAME
pub record IsKept (recipe : Recipe) : Type 0 where
  pub right : is_right_recipe recipe ≡ true
  pub versions : rises nat_cmp (map (λ row. row.number) recipe.versions) ≡ true
  pub variants : rises nat_cmp (map (λ row. row.number) recipe.variants) ≡ true
  pub provides : climbs (map (λ row. row.number) recipe.provides) ≡ true
  pub variant_names : list_all (λ row. is_name row.name) recipe.variants ≡ true
  pub virtual_names : list_all (λ row. is_name row.name) recipe.provides ≡ true
