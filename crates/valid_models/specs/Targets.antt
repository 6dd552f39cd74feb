-- The names to which the conditions and specs of a problem ask for paths.
use Rattle.std.specs.Prelude.{List, [], ◌∷◌, ◌++◌, map, flat_map, Option, Some, None, if◌then◌else◌}
use Rattle.variant_values.specs.Texts.{with_texts}
use Rattle.spec_grammar.specs.declared.part.Part.{Part}
use Rattle.spec_grammar.specs.declared.part.Spec.{Spec}
use Rattle.graph_core.specs.Graphs.{Text}
use Rattle.virtuals.specs.Virtuals.{is_virtual}
use Rattle.condition_rules.specs.Worlds.{World}
use Rattle.recipe_data.specs.OfSpecGrammar.Condition.{Condition}
use Rattle.recipe_data.specs.declared.recipe.RequireRow.{RequireRow}
use Rattle.problem.specs.Problems.{Problem, world_of, variants_at, depends_at, conflicts_at, requirements_at, required_at}
use Rattle.literal_table.specs.Tables.{Table, table_names}
use Rattle.graph_formulas.specs.Words.{names_for}

module _ (world : World) (packages : Text → List Text) where
  -- the nodes that a name asks for: the package, or those that may provide the virtual
  abbrev pub asked_names : Option Text → List Text
  asked_names None = []
  asked_names (Some asked) = if is_virtual world.recipes asked then packages asked else asked ∷ []

  abbrev pub spec_names : Spec → List Text
  spec_names spec = flat_map (λ (part : Part). asked_names part.name) spec.below

  abbrev pub condition_names : Condition → List Text
  condition_names condition = flat_map spec_names condition.specs

module _ (problem : Problem) where
  -- what a package's recipe requires, and then what the settings do
  abbrev pub choices_at : Text → List RequireRow
  choices_at name = requirements_at problem name ++ required_at problem name

  -- the conditions of a package's directives, and the specs of its conflicts and requirements
  abbrev pub conditions_at : Text → List Condition
  conditions_at name =
      map (λ row. row.when) (variants_at problem name) ++ (map (λ row. row.when) (depends_at problem name)
      ++ (map (λ row. row.when) (conflicts_at problem name) ++ map (λ row. row.when) (choices_at name)))

  abbrev pub specs_at : Text → List Spec
  specs_at name = map (λ row. row.spec) (conflicts_at problem name) ++ flat_map (λ row. row.specs) (choices_at name)

module _ (problem : Problem) (t : Table) where
  -- the conditions, each with the name of its package
  abbrev pub conditions_of : List (Text × Condition)
  conditions_of = flat_map (λ name. map (λ when. (name, when)) (conditions_at problem name)) (table_names t)

  -- the names to which a package's directives ask for paths
  abbrev pub targets_at : Text → List Text
  targets_at name =
      flat_map (condition_names (world_of problem) (names_for t)) (conditions_at problem name)
      ++ flat_map (spec_names (world_of problem) (names_for t)) (specs_at problem name)

  -- and those of all packages of the table, and of the roots
  abbrev pub asked_targets : List Text
  asked_targets = flat_map targets_at (table_names t) ++ flat_map (spec_names (world_of problem) (names_for t)) problem.roots

  -- in byte order, each once
  abbrev pub targets_of : List Text
  targets_of = with_texts [] asked_targets
