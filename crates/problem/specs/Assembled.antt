-- What holds of each problem that was put together from right parts.
use Rattle.std.specs.Prelude.{Bool, ◌&&◌, map, is_some}
use Rattle.std.specs.List.{list_all}
use Rattle.condition_rules.specs.OfVariantValues.Texts.{byte_cmp}
use Rattle.condition_rules.specs.OfKeyedLists.Keyed.{rises}
use Rattle.condition_rules.specs.OfConditions.Right.{is_right_recipe}
use Rattle.problem.specs.Problems.{Problem}

-- recipes are in byte order of names, each name once, and right; each root is named
unfoldable pub is_assembled : Problem → Bool
is_assembled problem =
    rises byte_cmp (map (λ recipe. recipe.name) problem.recipes)
    && list_all is_right_recipe problem.recipes
    && list_all (λ spec. is_some spec.top.name) problem.roots
