-- What the rows of every recipe have while it is read, directive by directive.
use Rattle.std.proofs.Common.{◌≡◌, ℕ, ◌+◌, true, List, [], map, refl}
use Rattle.std.specs.Prelude.{IsSome}
use Rattle.std.specs.List.{AllByRecursion}
use Rattle.variant_values.specs.Texts.{Texts}
use Rattle.spec_grammar.specs.Signs.{IsName}
use Rattle.recipe_data.specs.Right.{is_distinct, has_right_default, all_numbers}
use Rattle.recipe_data.specs.declared.recipe.VersionRow.{VersionRow}
use Rattle.recipe_data.specs.declared.recipe.VariantRow.{VariantRow}
use Rattle.recipe_data.specs.declared.recipe.DependRow.{DependRow}
use Rattle.recipe_data.specs.declared.recipe.ProvideRow.{ProvideRow}
use Rattle.recipe_data.specs.declared.recipe.ConflictRow.{ConflictRow}
use Rattle.recipe_data.specs.declared.recipe.RequireRow.{RequireRow}
use Rattle.recipe_data.specs.declared.recipe.Recipe.{Recipe}
use Rattle.recipe_reader.specs.declared.state.State.{State}
use Rattle.recipe_reader.specs.Recipes.{empty_recipe}
use Rattle.directive_arguments.specs.Said.{IsLocal}
use Rattle.recipe_reader.proofs.HeadLaws.{IsHead}
use Rattle.recipe_reader.proofs.NumberLaws.{IsNumbered, numbered_more, none_numbered, IsClimbing, climbing_more, none_climbing, Differ}

-- ---- what each list has, where the next directive has this number

-- their texts are those that were declared, each once
pub record AreVersions (next : ℕ) (declared : Texts) (rows : List VersionRow) : Type 0 where
  pub texts : map (λ row. row.version) rows ≡ declared
  pub distinct : is_distinct declared ≡ true
  pub numbers : IsNumbered next (map (λ row. row.number) rows)

abbrev pub IsVariantRow : VariantRow → Type 0
IsVariantRow row = (has_right_default row ≡ true) × IsName row.name

pub record AreVariants (next : ℕ) (rows : List VariantRow) : Type 0 where
  pub each : AllByRecursion IsVariantRow rows
  pub numbers : IsNumbered next (map (λ row. row.number) rows)

abbrev pub IsDependRow : DependRow → Type 0
IsDependRow row = IsSome row.part.name

pub record AreDepends (next : ℕ) (rows : List DependRow) : Type 0 where
  pub each : AllByRecursion IsDependRow rows
  pub numbers : IsNumbered next (map (λ row. row.number) rows)

abbrev pub IsProvideRow : ProvideRow → Type 0
IsProvideRow row = AllByRecursion IsLocal row.when.specs × IsName row.name

pub record AreProvides (next : ℕ) (rows : List ProvideRow) : Type 0 where
  pub each : AllByRecursion IsProvideRow rows
  pub numbers : IsClimbing next (map (λ row. row.number) rows)

-- ---- numbers of the rows that are demanded

abbrev pub depend_numbers : Recipe → List ℕ
depend_numbers recipe = map (λ (row : DependRow). row.number) recipe.depends

abbrev pub conflict_numbers : Recipe → List ℕ
conflict_numbers recipe = map (λ (row : ConflictRow). row.number) recipe.conflicts

abbrev pub require_numbers : Recipe → List ℕ
require_numbers recipe = map (λ (row : RequireRow). row.number) recipe.requirements

-- ---- all rows, of a recipe with this name

module _ (owner : List ℕ) where
  pub record KeepsRows (next : ℕ) (declared : Texts) (recipe : Recipe) : Type 0 where
    pub name : recipe.name ≡ owner
    pub versions : AreVersions next declared recipe.versions
    pub variants : AreVariants next recipe.variants
    pub depends : AreDepends next recipe.depends
    pub provides : AreProvides next recipe.provides
    pub conflicts : IsNumbered next (map (λ row. row.number) recipe.conflicts)
    pub requirements : IsNumbered next (map (λ row. row.number) recipe.requirements)
    pub apart : Differ (all_numbers recipe)

  pub record Keeps (next : ℕ) (s : State) : Type 0 where
    pub rows : KeepsRows next s.declared s.recipe
    pub heads : AllByRecursion IsHead s.heads

  -- the number is passed over
  pub rows_more : (n : ℕ) (declared : Texts) (recipe : Recipe) → KeepsRows n declared recipe → KeepsRows (n + 1) declared recipe
  rows_more n declared recipe k = record {
    name = k.name;
    versions = record {
      texts = k.versions.texts;
      distinct = k.versions.distinct;
      numbers =
          numbered_more n (map (λ (r : VersionRow). r.number) recipe.versions) k.versions.numbers;
    };
    variants = record {
      each = k.variants.each;
      numbers =
          numbered_more n (map (λ (r : VariantRow). r.number) recipe.variants) k.variants.numbers;
    };
    depends = record { each = k.depends.each; numbers = numbered_more n (depend_numbers recipe) k.depends.numbers };
    provides = record {
      each = k.provides.each;
      numbers =
          climbing_more n (map (λ (r : ProvideRow). r.number) recipe.provides) k.provides.numbers;
    };
    conflicts = numbered_more n (conflict_numbers recipe) k.conflicts;
    requirements = numbered_more n (require_numbers recipe) k.requirements;
    apart = k.apart;
  }

  -- an empty recipe is right
  pub starts_rows : KeepsRows 0 [] (empty_recipe owner)
  starts_rows = record {
    name = refl;
    versions = record { texts = refl; distinct = refl; numbers = none_numbered };
    variants = record { each = tt; numbers = none_numbered };
    depends = record { each = tt; numbers = none_numbered };
    provides = record { each = tt; numbers = none_climbing };
    conflicts = none_numbered;
    requirements = none_numbered;
    apart = tt;
  }
