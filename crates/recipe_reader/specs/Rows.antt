-- What a directive adds to a recipe, once its arguments were read.
use Rattle.std.specs.Prelude.{ℕ, ◌==◌, ◌&&◌, ◌||◌, not, Bool, false, List, [], ◌∷◌, ◌++◌, length, map, Option, Some, None, is_some, Ok, Err, if◌then◌else◌, codes}
use Rattle.std.specs.List.{list_any}
use Rattle.std.specs.Str.{bytes_eq}
use Rattle.spec_grammar.specs.declared.part.Part.{Part}
use Rattle.spec_grammar.specs.declared.part.Spec.{Spec}
use Rattle.graph_core.specs.Graphs.{has_kind}
use Rattle.graph_core.specs.declared.node.Kinds.{Kinds}
use Rattle.recipe_data.specs.OfSpecGrammar.Condition.{Condition}
use Rattle.recipe_data.specs.declared.recipe.ProvideRow.{ProvideRow}
use Rattle.recipe_data.specs.declared.recipe.Recipe.{Recipe}
use Rattle.recipe_reader.specs.declared.fault.RecipeFault.TheVariants as fault
use Rattle.directive_arguments.specs.declared.given.Given.{Given}
use Rattle.directive_arguments.specs.declared.given.Options.{Options}
use Rattle.directive_arguments.specs.declared.directive.Directive.{Directive}
use Rattle.directive_arguments.specs.declared.directive.Directive.TheVariants as directive
use Rattle.recipe_reader.specs.declared.state.State.{State}
use Rattle.directive_arguments.specs.declared.variant.VariantShape.{VariantShape}
use Rattle.directive_arguments.specs.Results.{then_do}
use Rattle.recipe_reader.specs.Results.{RecipeStep}
use Rattle.directive_arguments.specs.Variants.{shape}

-- ---- version

-- a version text is declared once
abbrev pub add_version : ℕ → ℕ → Option (List ℕ) → Options → State → RecipeStep State
add_version place number None o s = Err (fault.BadArgument place)
add_version place number (Some v) o s =
    if list_any (bytes_eq v) s.declared then Err (fault.TwiceVersion place)
    else Ok (record s {
      declared = s.declared ++ v ∷ [];
      recipe = record s.recipe {
        versions = s.recipe.versions ++
            record { version = v; preferred = o.preferred; deprecated = o.deprecated; number = number } ∷ [];
      };
    })

-- ---- variant

abbrev pub with_variant_row : ℕ → ℕ → List ℕ → Option VariantShape → Condition → Recipe → RecipeStep Recipe
with_variant_row place number name None when recipe = Err (fault.BadDefault place)
with_variant_row place number name (Some shape) when recipe =
    Ok (record recipe {
      variants = recipe.variants ++
          record { name = name; kind = shape.kind; values = shape.values; default = shape.default; when = when; number = number } ∷ [];
    })

abbrev pub add_variant : ℕ → ℕ → Option (List ℕ) → Options → Condition → Recipe → RecipeStep Recipe
add_variant place number None o when recipe = Err (fault.BadArgument place)
add_variant place number (Some name) o when recipe = with_variant_row place number name (shape o) when recipe

-- ---- depends_on

abbrev pub is_language : List ℕ → Bool
is_language w = bytes_eq w (codes "c") || bytes_eq w (codes "cxx") || bytes_eq w (codes "fortran")

abbrev pub names_language : Option (List ℕ) → Bool
names_language None = false
names_language (Some w) = is_language w

-- nothing but the name
abbrev pub is_bare : Part → Bool
is_bare p =
    not (is_some p.versions) && length p.variants == 0 && not (is_some p.compiler) && not (is_some p.platform)
    && not (is_some p.os) && not (is_some p.targets)

-- needed for tests alone, or a language of a compiler
abbrev pub is_passed_over : Kinds → Part → Bool
is_passed_over kinds p = not (has_kind kinds) || (is_bare p && names_language p.name)

abbrev pub add_depends : ℕ → ℕ → Option Part → Kinds → Condition → Recipe → RecipeStep Recipe
add_depends place number None kinds when recipe = Err (fault.BadArgument place)
add_depends place number (Some p) kinds when recipe =
    if is_passed_over kinds p then Ok recipe
    else Ok (record recipe { depends = recipe.depends ++ record { part = p; kinds = kinds; when = when; number = number } ∷ [] })

-- ---- provides

abbrev pub name_in : Option (List ℕ) → List ℕ
name_in None = []
name_in (Some w) = w

abbrev pub provided : ℕ → Condition → Part → ProvideRow
provided number when p = record { name = name_in p.name; versions = p.versions; when = when; number = number }

abbrev pub add_provides : ℕ → ℕ → List Part → Condition → Recipe → RecipeStep Recipe
add_provides place number parts when recipe =
    if length parts == 0 then Err (fault.BadArgument place)
    else Ok (record recipe { provides = recipe.provides ++ map (provided number when) parts })

-- ---- conflicts and requires

abbrev pub add_conflict : ℕ → ℕ → Option Spec → Condition → Recipe → RecipeStep Recipe
add_conflict place number None when recipe = Err (fault.BadArgument place)
add_conflict place number (Some spec) when recipe =
    Ok (record recipe { conflicts = recipe.conflicts ++ record { spec = spec; when = when; number = number } ∷ [] })

abbrev pub add_requirement : ℕ → ℕ → List Spec → Bool → Condition → Recipe → RecipeStep Recipe
add_requirement place number specs one_of when recipe =
    if length specs == 0 then Err (fault.BadArgument place)
    else Ok (record recipe {
      requirements = recipe.requirements ++
          record { specs = specs; one_of = one_of; when = when; number = number } ∷ [];
    })

-- ---- the directive at `place`

abbrev pub into : State → RecipeStep Recipe → RecipeStep State
into s step = then_do step (λ recipe. Ok (record s { recipe = recipe }))

-- its first value is missing, or it adds its rows
unfoldable pub add_directive : Directive → ℕ → ℕ → Given → Condition → State → RecipeStep State
add_directive directive.Version place number g when s = add_version place number g.positional.version g.options s
add_directive directive.Variant place number g when s = into s (add_variant place number g.positional.name g.options when s.recipe)
add_directive directive.DependsOn place number g when s = into s (add_depends place number g.positional.part g.options.kinds when s.recipe)
add_directive directive.Provides place number g when s = into s (add_provides place number g.positional.parts when s.recipe)
add_directive directive.Conflicts place number g when s = into s (add_conflict place number g.positional.spec when s.recipe)
add_directive directive.Requires place number g when s =
    into s (add_requirement place number g.positional.specs g.options.one_of when s.recipe)
