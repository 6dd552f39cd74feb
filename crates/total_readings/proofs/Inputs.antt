-- What is read of files and words before a command's own work.
use Rattle.std.proofs.Common.{arith, ◌≢◌, refl, subst, inl, inr, ℕ, List, [], Bool, true, false, Ok, Err}
use Rattle.outside_desk.specs.Files.{Files}
use Rattle.spec_grammar.specs.Reading.{Spells}
use Rattle.spec_grammar.specs.declared.mode.Mode.TheVariants as mode
use Rattle.spec_grammar.proofs.SingleLaws.{single}
use Rattle.site_settings.specs.Standard.{standard}
use Rattle.serde_json.specs.Data.{Data}
use Rattle.settings_reader.specs.Files.{IsFirstFault}
use Rattle.settings_reader.specs.declared.fault.SettingsFault.{SettingsFault}
use Rattle.settings_reader.specs.declared.fault.SettingsFault.TheVariants as settings_fault
use Rattle.run_answers.specs.Stages.{Is}
use Rattle.run_answers.specs.declared.refusal.Refusal.TheVariants as refusals
use Rattle.run_words.specs.Words.{Command, is_dash_path}
use Rattle.run_input.specs.Inputs.{Behind, InRepository, InputBy, OverSettings, OverSources, OverSpecs, ReadsInput, Seeks, Sought, StockAt, apart_of, closed_of, posed_by, query_of, stock_of}
use Rattle.run_input.specs.Installed.{DatabaseAt, DatabaseBy, DatabaseIn, database_bytes}
use Rattle.run_input.specs.Recipes.{recipes_of}
use Rattle.run_input.specs.Roots.{ConditionIn, ConditionOf, RootsOf, SpecsOf, roots_of, short}
use Rattle.run_input.specs.Sites.{SettingsAt, SettingsBy, SettingsIn, settings_bytes}
use Rattle.run_input.specs.Sources.{Source, pile_of}
use Rattle.run_input.specs.declared.stock.Stock.{Stock}
use Rattle.total_readings.proofs.Databases.{database_said}
use Rattle.total_readings.proofs.Entries.{AreTotal}
use Rattle.total_readings.proofs.Files.{settings_said}
use Rattle.total_readings.proofs.Stages.{Answers, computed, then_answers}

-- the first fault of a value is no want of memory
first_is : (d : Data) (f : SettingsFault) → IsFirstFault d f → f ≢ settings_fault.OutOfMemory
first_is d f first = λ same. let is = first.is in grind (arith, is, same)

database_in : (bytes : List ℕ) → Answers (DatabaseIn bytes)
database_in bytes = elim (database_said bytes) [
  | inl (records, is) ↦ (Ok records, is)
  | inr (f, is, other) ↦ (Err (refusals.BadDatabase f), (f, is, other, refl))
]

database_by : (dash : Bool) (files : Files) (path : List ℕ) → Answers (DatabaseBy dash files path)
database_by true files path = computed (Ok [])
database_by false files path = then_answers (Is (database_bytes files path)) DatabaseIn (computed (database_bytes files path)) database_in

over_sources : (sources : List Source) → Answers (OverSources sources)
over_sources sources =
    then_answers (Is (recipes_of sources)) _ (computed (recipes_of sources))
    (λ recipes. then_answers (Is (apart_of recipes)) _ (computed (apart_of recipes)) (λ done. computed (Ok recipes)))

in_repository : (files : Files) (repo : List ℕ) → Answers (InRepository files repo)
in_repository files repo = then_answers (Is (pile_of files repo)) _ (computed (pile_of files repo)) (λ pile. over_sources pile.files)

module _ (total : AreTotal) where
  settings_in : (bytes : List ℕ) → Answers (SettingsIn bytes)
  settings_in bytes = elim (settings_said total bytes) [
    | inl (settings, is) ↦ (Ok settings, is)
    | inr (inl none) ↦
        (Err (refusals.BadSettings settings_fault.NotJson), (settings_fault.NotJson, inr (inl (refl, none)), λ same. cc, refl))
    | inr (inr (d, f, json, first)) ↦ (
      Err (refusals.BadSettings f),
      (f, inr (inr (d, json, first)), first_is d f first, refl),
    )
  ]

  settings_by : (dash : Bool) (files : Files) (path : List ℕ) → Answers (SettingsBy dash files path)
  settings_by true files path = computed (Ok standard)
  settings_by false files path = then_answers (Is (settings_bytes files path)) SettingsIn (computed (settings_bytes files path)) settings_in

  stock_at : (files : Files) (command : Command) → Answers (StockAt files command)
  stock_at files command =
      then_answers (SettingsAt files command.settings) (OverSettings files command)
      (settings_by (is_dash_path command.settings) files command.settings) (λ settings.
      then_answers (InRepository files command.repo) (Behind files command settings) (in_repository files command.repo) (λ recipes.
      then_answers (DatabaseAt files command.database) _ (database_by (is_dash_path command.database) files command.database)
      (λ records. computed (Ok (stock_of settings recipes records)))))

  specs_of : (text : List ℕ) → Answers (SpecsOf text)
  specs_of text = elim (total mode.Specs text) [
    | inl (specs, spells) ↦ (Ok specs, spells)
    | inr (e, is, other) ↦ (Err (refusals.BadSpecs e), (e, is, other, refl))
  ]

  condition_in : (text : List ℕ) → Answers (ConditionIn text)
  condition_in text = elim (total mode.Condition text) [
    | inl (specs, spells) ↦ let one = single mode.Condition text specs refl spells in
        (Ok one.0, subst (Spells mode.Condition text) one.1 spells)
    | inr (e, is, other) ↦ (Err (refusals.BadSpecs e), (e, is, other, refl))
  ]

  roots_in : (text : List ℕ) → Answers (RootsOf text)
  roots_in text =
      then_answers (Is (short text)) _ (computed (short text))
      (λ done. then_answers (SpecsOf text) _ (specs_of text) (λ specs. computed (roots_of specs)))

  condition_of : (text : List ℕ) → Answers (ConditionOf text)
  condition_of text = then_answers (Is (short text)) _ (computed (short text)) (λ done. condition_in text)

  over_specs : (text : List ℕ) (stock : Stock) → Answers (OverSpecs text stock)
  over_specs text stock =
      then_answers (RootsOf text) (λ roots. InputBy stock.recipes stock.settings stock.records roots) (roots_in text) (λ roots.
      then_answers (Is (posed_by stock.recipes stock.settings stock.records roots)) _
      (computed (posed_by stock.recipes stock.settings stock.records roots)) (λ problem. computed (closed_of problem)))

  pub input_read : (files : Files) (command : Command) → Answers (ReadsInput files command)
  input_read files command =
      then_answers (StockAt files command) (OverSpecs command.spec) (stock_at files command) (over_specs command.spec)

  sought : (text : List ℕ) (stock : Stock) → Answers (Sought text stock)
  sought text stock = then_answers (ConditionOf text) _ (condition_of text) (λ spec. computed (Ok (query_of stock spec)))

  pub query_read : (files : Files) (command : Command) → Answers (Seeks files command)
  query_read files command = then_answers (StockAt files command) (Sought command.spec) (stock_at files command) (sought command.spec)
