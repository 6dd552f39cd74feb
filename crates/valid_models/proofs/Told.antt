-- What targets are told is what names, roots and conditions ask for.
use Rattle.std.proofs.Common.{◌≡◌, sym, ◌∙◌, Bool, true, map}
use Rattle.std.specs.Prelude.{flat_map}
use Rattle.std.specs.List.{list_all}
use Rattle.std.proofs.lemmas.List.Folds.{list_all-append, list_all-map}
use Rattle.std.proofs.lemmas.Bool.{and_parts}
use Rattle.graph_core.specs.Graphs.{Text}
use Rattle.recipe_data.specs.OfSpecGrammar.Condition.{Condition}
use Rattle.problem.specs.Problems.{Problem, world_of}
use Rattle.literal_table.specs.Tables.{Table, table_names}
use Rattle.graph_formulas.specs.Words.{names_for}
use Rattle.valid_models.specs.Targets.{conditions_at, conditions_of, targets_at, asked_targets, condition_names, spec_names}
use Rattle.valid_models.proofs.Mentions.{all-flat}
use Rattle.valid_models.proofs.Lists.{all-from}

-- what is asked of a name is told
abbrev pub is_told_name : Problem → Table → (Text → Bool) → Text → Bool
is_told_name problem t told name = list_all told (targets_at problem t name)

-- what a condition names
abbrev pub is_told_when : Problem → Table → (Text → Bool) → Condition → Bool
is_told_when problem t told when = list_all told (condition_names (world_of problem) (names_for t) when)

abbrev pub is_told_pair : Problem → Table → (Text → Bool) → Text × Condition → Bool
is_told_pair problem t told c = is_told_when problem t told c.1

abbrev pair_with : Text → Condition → Text × Condition
pair_with name when = (name, when)

module _ (problem : Problem) (t : Table) (told : Text → Bool) (all : list_all told (asked_targets problem t) ≡ true) where
  parts : (list_all told (flat_map (targets_at problem t) (table_names t)) ≡ true)
      × (list_all told (flat_map (spec_names (world_of problem) (names_for t)) problem.roots) ≡ true)
  parts = and_parts _ _
      (sym (list_all-append told (flat_map (targets_at problem t) (table_names t))
      (flat_map (spec_names (world_of problem) (names_for t)) problem.roots)) ∙ all)

  pub told-names : list_all (is_told_name problem t told) (table_names t) ≡ true
  told-names = sym (all-flat told (targets_at problem t) (table_names t)) ∙ parts.0

  pub told-roots : list_all (λ spec. list_all told (spec_names (world_of problem) (names_for t) spec)) problem.roots ≡ true
  told-roots = sym (all-flat told (spec_names (world_of problem) (names_for t)) problem.roots) ∙ parts.1

  told-at : (name : Text) → is_told_name problem t told name ≡ true
      → list_all (is_told_pair problem t told) (map (pair_with name) (conditions_at problem name)) ≡ true
  told-at name e =
      list_all-map (is_told_pair problem t told) (pair_with name) (conditions_at problem name)
      ∙ sym (all-flat told (condition_names (world_of problem) (names_for t)) (conditions_at problem name))
      ∙ (and_parts _ _
      (sym (list_all-append told (flat_map (condition_names (world_of problem) (names_for t)) (conditions_at problem name)) _) ∙ e)).0

  pub told-conditions : list_all (is_told_pair problem t told) (conditions_of problem t) ≡ true
  told-conditions =
      all-flat (is_told_pair problem t told) (λ name. map (pair_with name) (conditions_at problem name)) (table_names t)
      ∙ all-from (is_told_name problem t told) (λ name. list_all (is_told_pair problem t told)
      (map (pair_with name) (conditions_at problem name))) told-at
      (table_names t) told-names
