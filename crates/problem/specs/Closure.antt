-- The names that nodes may have.
use Rattle.std.specs.Prelude.{◌≡◌, Bool, true, false, ◌&&◌, ◌||◌, List, [], ◌∷◌, ◌++◌, map, filter, filter_map, flat_map, Option, Some, None, option_map, is_some, if◌then◌else◌}
use Rattle.std.specs.List.{list_any, list_all}
use Rattle.std.specs.Str.{bytes_eq}
use Rattle.condition_rules.specs.OfVariantValues.Texts.{byte_cmp}
use Rattle.condition_rules.specs.OfGraphCore.Graphs.{Text}
use Rattle.condition_rules.specs.Words.{is_one_text, includes, if_written, implies}
use Rattle.condition_rules.specs.OfKeyedLists.Keyed.{rises}
use Rattle.condition_rules.specs.OfVirtuals.Virtuals.{is_virtual}
use Rattle.problem.specs.Problems.{recipe_at, depends_at, package_entry_of, externals_in, record_at, Problem}
use Rattle.problem.specs.Records.{kept_dependencies}
use Rattle.reuse_db.specs.declared.record.Record.{Record}

-- the list has an element
abbrev pub is_filled : {T : Type 0} → List T → Bool
is_filled [] = false
is_filled (x ∷ xs) = true

-- a recipe, an external or a record has the name
unfoldable pub is_known : Problem → Text → Bool
is_known problem name =
    is_some (recipe_at problem name) || is_filled (externals_in (package_entry_of problem name))
    || list_any (λ entry. bytes_eq entry.name name) problem.database

-- the packages whose recipe provides the virtual
abbrev pub possible_providers : Problem → Text → List Text
possible_providers problem name = map (λ recipe. recipe.name)
    (filter (λ recipe. list_any (λ row. bytes_eq row.name name) recipe.provides) problem.recipes)

-- the packages to which a `depends_on` on the name may lead
abbrev pub possible_children : Problem → Option Text → List Text
possible_children problem None = []
possible_children problem (Some name) = if is_virtual problem.recipes name then possible_providers problem name else name ∷ []

-- the names of the link and run children of a record
abbrev pub kept_names : Problem → Record → List Text
kept_names problem entry = filter_map (λ d. option_map (λ child. child.name) (record_at problem d.hash)) (kept_dependencies entry)

-- the names that a member brings with it
unfoldable pub next_names : Problem → Text → List Text
next_names problem name =
    flat_map (λ row. possible_children problem row.part.name) (depends_at problem name)
    ++ flat_map (kept_names problem) (filter (λ entry. bytes_eq entry.name name) problem.database)

-- a name that is known is among these
abbrev pub has_known : Problem → List Text → Text → Bool
has_known problem names name = implies (is_known problem name) (is_one_text names name)

-- the roots' names are there, and with each name those that it brings, as far as they are known
unfoldable pub is_closed : Problem → List Text → Bool
is_closed problem names =
    list_all (λ spec. if_written spec.top.name (has_known problem names)) problem.roots
    && list_all (λ name. list_all (has_known problem names) (next_names problem name)) names

-- the least names that are closed, in byte order
pub record IsClosure (problem : Problem) (names : List Text) : Type 0 where
  pub rising : rises byte_cmp names ≡ true
  pub closed : is_closed problem names ≡ true
  pub least : (others : List Text) → is_closed problem others ≡ true → includes others names ≡ true
