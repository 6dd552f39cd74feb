-- What holds of each recipe that layers above are given.
use Rattle.std.specs.Prelude.{Bool, true, ◌&&◌, ◌+◌, ◌==◌, not, nat_lt, ℕ, List, [], ◌∷◌, ◌++◌, map, fold, length, is_some}
use Rattle.std.specs.List.{list_any, list_all}
use Rattle.std.specs.Ordering.{nat_cmp}
use Rattle.std.specs.Str.{bytes_eq}
use Rattle.std.specs.BTreeSet.{insert_key}
use Rattle.graph_core.specs.OfVariantValues.Texts.{Texts}
use Rattle.graph_core.specs.OfVariantValues.VariantKind.{VariantKind}
use Rattle.graph_core.specs.OfVariantValues.VariantKindVariants as kinds
use Rattle.spec_grammar.specs.declared.part.Spec.{Spec}
use Rattle.graph_core.specs.OfKeyedLists.Keyed.{rises}
use Rattle.recipe_data.specs.declared.recipe.Recipe.{Recipe}
use Rattle.recipe_data.specs.declared.recipe.VariantRow.{VariantRow}
use Rattle.recipe_data.specs.declared.recipe.ProvideRow.{ProvideRow}

-- ---- versions: no text stands twice

abbrev pub is_distinct : Texts → Bool
is_distinct [] = true
is_distinct (text ∷ more) = not (list_any (bytes_eq text) more) && is_distinct more

-- ---- variants: the default is allowed, and as many values as the kind takes

-- all these texts are among those
abbrev pub has_all : Texts → Texts → Bool
has_all values texts = list_all (λ text. list_any (bytes_eq text) values) texts

-- Bool and Single have one value, and Multi has some
abbrev pub is_count_of : VariantKind → ℕ → Bool
is_count_of kinds.Bool count = count == 1
is_count_of kinds.Single count = count == 1
is_count_of kinds.Multi count = nat_lt 0 count

abbrev pub has_right_default : VariantRow → Bool
has_right_default row = has_all row.values row.default && is_count_of row.kind (length row.default)

-- ---- `provides`: no condition has `^`

abbrev pub is_alone : Spec → Bool
is_alone spec = length spec.below == 0

abbrev pub is_local_row : ProvideRow → Bool
is_local_row row = list_all is_alone row.when.specs

-- ---- numbers of `depends_on`, `conflicts` and `requires`

abbrev pub all_numbers : Recipe → List ℕ
all_numbers recipe = map (λ row. row.number) recipe.depends ++ map (λ row. row.number) recipe.conflicts
    ++ map (λ row. row.number) recipe.requirements

-- the same rising, each once
abbrev pub numbers_of : Recipe → List ℕ
numbers_of recipe = fold (insert_key nat_cmp) [] (all_numbers recipe)

-- ---- all of it

-- versions are told apart by their texts, and directives by their numbers, which rise in each list; a dependency is
-- named
unfoldable pub is_right_recipe : Recipe → Bool
is_right_recipe recipe =
    is_distinct (map (λ row. row.version) recipe.versions)
    && list_all has_right_default recipe.variants
    && list_all is_local_row recipe.provides
    && list_all (λ row. is_some row.part.name) recipe.depends
    && rises nat_cmp (map (λ row. row.number) recipe.depends)
    && rises nat_cmp (map (λ row. row.number) recipe.conflicts)
    && rises nat_cmp (map (λ row. row.number) recipe.requirements)
    && length (numbers_of recipe) == length recipe.depends + length recipe.conflicts + length recipe.requirements
