-- A command names one input at most, or looks for one thing at most.
use Rattle.std.proofs.Common.{◌≡◌, ◌≢◌, ℕ, List, [], ◌∷◌, ap, sym, ◌∙◌, Ok, Err}
use Rattle.spec_grammar.specs.Reading.{Spells}
use Rattle.spec_grammar.specs.Faults.{IsFault}
use Rattle.spec_grammar.specs.declared.mode.Mode.{Mode}
use Rattle.spec_grammar.specs.declared.mode.Mode.TheVariants.{Specs, Condition}
use Rattle.spec_grammar.specs.declared.part.Spec.{Spec}
use Rattle.spec_grammar.specs.declared.fault.SpecFault.{SpecFault}
use Rattle.spec_grammar.specs.declared.fault.SpecFault.TheVariants as fault
use Rattle.outside_desk.specs.Files.{Files}
use Rattle.run_answers.specs.Stages.{Is, Then}
use Rattle.run_answers.specs.declared.refusal.Refusal.TheVariants as refusals
use Rattle.run_answers.proofs.StageLaws.{IsOne, one_is, one_then}
use Rattle.recipe_data.specs.declared.recipe.Recipe.{Recipe}
use Rattle.site_settings.specs.declared.settings.Settings.{Settings}
use Rattle.run_input.specs.Sites.{SettingsAt}
use Rattle.run_input.specs.Installed.{DatabaseAt}
use Rattle.reuse_db.specs.declared.record.Record.{Record}
use Rattle.run_input.specs.Sources.{Source, pile_of}
use Rattle.run_words.specs.Words.{Command}
use Rattle.run_input.specs.Recipes.{recipes_of}
use Rattle.run_input.specs.Roots.{SpecsOf, RootsOf, ConditionIn, ConditionOf, short, roots_of}
use Rattle.run_input.specs.Inputs.{
  apart_of,
  closed_of,
  posed_by,
  query_of,
  stock_of,
  OverSpecs,
  Behind,
  InputBy,
  InRepository,
  OverSources,
  OverSettings,
  ReadsInput,
  Seeks,
  Sought,
  StockAt,
}
use Rattle.run_input.specs.declared.stock.Stock.{Stock}

-- what holds of reading specs
pub record ReadsOnce : Type 0 where
  pub reading : (mode : Mode) (text : List ℕ) (a b : List Spec) → Spells mode text a → Spells mode text b → a ≡ b
  pub refusal : (mode : Mode) (text : List ℕ) (a b : SpecFault) → IsFault mode text a → IsFault mode text b → a ≢ fault.OutOfMemory
      → b ≢ fault.OutOfMemory → a ≡ b
  pub right : (mode : Mode) (text : List ℕ) (specs : List Spec) (e : SpecFault) → Spells mode text specs → IsFault mode text e
      → e ≡ fault.OutOfMemory

heads : (a b : Spec) → (let T : Type 0 = List Spec in let l : T = a ∷ [] in let r : T = b ∷ [] in l ≡ r) → a ≡ b
heads a b e = cc

one_specs : ReadsOnce → (text : List ℕ) → IsOne (SpecsOf text)
one_specs laws text (Ok a) (Ok b) p q = ap Ok (laws.reading Specs text a b p q)
one_specs laws text (Ok a) (Err b) p (e, is, other, same) = absurd (other (laws.right Specs text a e p is))
one_specs laws text (Err a) (Ok b) (e, is, other, same) q = absurd (other (laws.right Specs text b e q is))
one_specs laws text (Err a) (Err b) (e, is, other, same) (f, as_well, not, too) =
    ap Err (same ∙ ap refusals.BadSpecs (laws.refusal Specs text e f is as_well other not) ∙ sym too)

one_roots : ReadsOnce → (text : List ℕ) → IsOne (RootsOf text)
one_roots laws text =
    one_then (Is (short text)) (λ done. Then (SpecsOf text) (λ specs. Is (roots_of specs))) (one_is (short text))
    (λ done. one_then (SpecsOf text) (λ specs. Is (roots_of specs)) (one_specs laws text) (λ specs. one_is (roots_of specs)))

one_over : (sources : List Source) → IsOne (OverSources sources)
one_over sources =
    one_then (Is (recipes_of sources)) (λ recipes. Then (Is (apart_of recipes)) (λ done. Is (Ok recipes))) (one_is (recipes_of sources))
    (λ recipes. one_then (Is (apart_of recipes)) (λ done. Is (Ok recipes)) (one_is (apart_of recipes)) (λ done. one_is (Ok recipes)))

one_in_repository : (files : Files) (repo : List ℕ) → IsOne (InRepository files repo)
one_in_repository files repo =
    one_then (Is (pile_of files repo)) (λ pile. OverSources pile.files) (one_is (pile_of files repo)) (λ pile. one_over pile.files)

one_input : (recipes : List Recipe) (settings : Settings) (records : List Record) (roots : List Spec)
    → IsOne (InputBy recipes settings records roots)
one_input recipes settings records roots =
    one_then (Is (posed_by recipes settings records roots)) (λ problem. Is (closed_of problem))
    (one_is (posed_by recipes settings records roots))
    (λ problem. one_is (closed_of problem))

one_asked : ReadsOnce → (spec : List ℕ) (stock : Stock) → IsOne (OverSpecs spec stock)
one_asked laws spec stock =
    one_then (RootsOf spec) (λ roots. InputBy stock.recipes stock.settings stock.records roots) (one_roots laws spec)
    (λ roots. one_input stock.recipes stock.settings stock.records roots)

one_condition_in : ReadsOnce → (text : List ℕ) → IsOne (ConditionIn text)
one_condition_in laws text (Ok a) (Ok b) p q = ap Ok (heads a b (laws.reading Condition text (a ∷ []) (b ∷ []) p q))
one_condition_in laws text (Ok a) (Err b) p (e, is, other, same) = absurd (other (laws.right Condition text (a ∷ []) e p is))
one_condition_in laws text (Err a) (Ok b) (e, is, other, same) q = absurd (other (laws.right Condition text (b ∷ []) e q is))
one_condition_in laws text (Err a) (Err b) (e, is, other, same) (f, as_well, not, too) =
    ap Err (same ∙ ap refusals.BadSpecs (laws.refusal Condition text e f is as_well other not) ∙ sym too)

one_condition : ReadsOnce → (text : List ℕ) → IsOne (ConditionOf text)
one_condition laws text =
    one_then (Is (short text)) (λ done. ConditionIn text) (one_is (short text)) (λ done. one_condition_in laws text)

one_sought : ReadsOnce → (text : List ℕ) (stock : Stock) → IsOne (Sought text stock)
one_sought laws text stock =
    one_then (ConditionOf text) (λ spec. Is (Ok (query_of stock spec))) (one_condition laws text)
    (λ spec. one_is (Ok (query_of stock spec)))

module _ (one_settings : (files : Files) (path : List ℕ) → IsOne (SettingsAt files path))
    (one_database : (files : Files) (path : List ℕ) → IsOne (DatabaseAt files path)) where
  one_stock : (files : Files) (command : Command) → IsOne (StockAt files command)
  one_stock files command =
      one_then (SettingsAt files command.settings) (OverSettings files command) (one_settings files command.settings)
      (λ settings. one_then (InRepository files command.repo) (Behind files command settings) (one_in_repository files command.repo)
      (λ recipes. one_then (DatabaseAt files command.database) (λ records. Is (Ok (stock_of settings recipes records)))
      (one_database files command.database) (λ records. one_is (Ok (stock_of settings recipes records)))))

  -- a command names one input at most, or is due one refusal
  pub one_read : ReadsOnce → (files : Files) (command : Command) → IsOne (ReadsInput files command)
  one_read laws files command =
      one_then (StockAt files command) (OverSpecs command.spec) (one_stock files command) (λ stock. one_asked laws command.spec stock)

  -- and looks for one thing at most
  pub one_seek : ReadsOnce → (files : Files) (command : Command) → IsOne (Seeks files command)
  one_seek laws files command =
      one_then (StockAt files command) (Sought command.spec) (one_stock files command) (λ stock. one_sought laws command.spec stock)
