-- Settings and records that were read have the values that a problem is to have, and the problem is within its limits.
use Rattle.std.proofs.Common.{◌≡◌, refl, ◌∙◌, Bool, true, ◌&&◌, List, [], ◌∷◌}
use Rattle.std.specs.List.{list_all}
use Rattle.std.proofs.lemmas.Bool.{and_parts, and_from}
use Rattle.std.proofs.lemmas.List.Elements.{All-weaker}
use Rattle.std.proofs.lemmas.List.Sums.{AllPass-from_list_all, list_all-from_AllPass}
use Rattle.table_plan.specs.Kept.{has_recorded_values, has_right_values, has_written_values}
use Rattle.problem.specs.Limits.{are_few_records, are_few_rows, are_small, is_within_limits}
use Rattle.problem.specs.Closure.{is_filled}
use Rattle.problem.specs.Problems.{problem_of}
use Rattle.recipe_data.specs.declared.recipe.Recipe.{Recipe}
use Rattle.site_settings.specs.declared.settings.PackageEntry.{PackageEntry}
use Rattle.site_settings.specs.declared.settings.Settings.{Settings}
use Rattle.spec_grammar.specs.declared.part.Spec.{Spec}
use Rattle.reuse_db.specs.declared.record.Record.{Record}
use Rattle.settings_reader.specs.Values as settings_values
use Rattle.settings_reader.specs.Values.{are_valued}
use Rattle.file_limits.specs.Values as record_values

all_weaker : {X : Type 0} (p q : X → Bool) → ((x : X) → p x ≡ true → q x ≡ true) → (xs : List X) → list_all p xs ≡ true
    → list_all q xs ≡ true
all_weaker p q weaker xs all =
    list_all-from_AllPass q xs (All-weaker (λ x. p x ≡ true) (λ x. q x ≡ true) weaker xs (AllPass-from_list_all p xs all))

-- tests of one meaning
of_settings : {T : Type 0} (xs : List T) → is_filled xs ≡ settings_values.is_filled xs
of_settings [] = refl
of_settings (x ∷ xs) = refl

of_records : {T : Type 0} (xs : List T) → is_filled xs ≡ record_values.is_filled xs
of_records [] = refl
of_records (x ∷ xs) = refl

written : (entry : PackageEntry) → settings_values.has_values entry ≡ true → has_written_values entry ≡ true
written entry has = (λ i. list_all (λ external. list_all (λ v. of_settings v.1 i) external.variants) entry.externals) ∙ has

recorded : (entry : Record) → record_values.has_values entry ≡ true → has_recorded_values entry ≡ true
recorded entry has =
    let parts = and_parts _ _ has in
    and_from _ _ parts.0 ((λ i. list_all (λ v. of_records v.1 i) entry.variants) ∙ parts.1)

-- what has values makes a problem with values
pub right_values : (recipes : List Recipe) (settings : Settings) (records : List Record) (roots : List Spec) → are_valued settings ≡ true
    → list_all record_values.has_values records ≡ true → has_right_values (problem_of recipes settings records roots) ≡ true
unfolding has_right_values
right_values recipes settings records roots externals installed =
    and_from _ _ (all_weaker settings_values.has_values has_written_values written settings.packages externals)
    (all_weaker record_values.has_values has_recorded_values recorded records installed)

-- what is within the limits makes a problem within them
pub within_limits : (recipes : List Recipe) (settings : Settings) (records : List Record) (roots : List Spec)
    → are_few_rows recipes ≡ true → are_small settings ≡ true → are_few_records records ≡ true
    → is_within_limits (problem_of recipes settings records roots) ≡ true
unfolding is_within_limits
within_limits recipes settings records roots rows small few =
    and_from (are_few_rows recipes && are_small settings) (are_few_records records)
    (and_from (are_few_rows recipes) (are_small settings) rows small) few
