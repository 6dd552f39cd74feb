-- What a run reads before the command's own work, or the first refusal.
use Rattle.std.specs.Prelude.{◌≡◌, ◌⊎◌, ℕ, ◌≤◌, true, nat_le, List, [], length, Option, Some, None, Result, Ok, Err}
use Rattle.outside_desk.specs.Files.{Files}
use Rattle.spec_grammar.specs.declared.part.Spec.{Spec}
use Rattle.site_settings.specs.declared.settings.Settings.{Settings}
use Rattle.recipe_data.specs.declared.recipe.Recipe.{Recipe}
use Rattle.virtuals.specs.Virtuals.{clash}
use Rattle.problem.specs.Problems.{Problem, problem_of}
use Rattle.problem.specs.Roots.{roots_fault}
use Rattle.problem.specs.Limits.{is_within_limits, most_names}
use Rattle.possible_closure.specs.Closures.{closure_of}
use Rattle.table_plan.specs.Kept.{has_right_values}
use Rattle.problem.specs.declared.fault.ProblemFault.{ProblemFault}
use Rattle.problem.specs.declared.fault.ProblemFault.TheVariants as faults
use Rattle.run_answers.specs.Stages.{Is, Then, ◌>>=◌, check, refuse_some}
use Rattle.run_answers.specs.declared.refusal.Refusal.{Refusal}
use Rattle.run_answers.specs.declared.refusal.Refusal.TheVariants as refusals
use Rattle.run_answers.specs.declared.stop.ReadStop.{ReadStop}
use Rattle.run_answers.specs.declared.stop.ReadStop.TheVariants as reads
use Rattle.run_words.specs.Words.{Command}
use Rattle.run_input.specs.Installed.{DatabaseAt}
use Rattle.run_input.specs.Named.{IsFilePath}
use Rattle.reuse_db.specs.declared.record.Record.{Record}
use Rattle.run_input.specs.Sites.{SettingsAt}
use Rattle.run_input.specs.Order.{IsBehind, IsReadPath}
use Rattle.run_input.specs.Sources.{Source, pile_of}
use Rattle.run_input.specs.Recipes.{recipes_of}
use Rattle.run_input.specs.Roots.{RootsOf, ConditionOf}
use Rattle.run_input.specs.declared.input.Input.{Input}
use Rattle.run_input.specs.declared.query.Query.{Query}
use Rattle.run_input.specs.declared.stock.Stock.{Stock}

-- ---- the stages, the last one first

-- no recipe has a name that some recipe provides
unfoldable pub apart_of : List Recipe → Result (Unit {0}) Refusal
apart_of recipes = refuse_some (λ recipe. refusals.NameClash recipe.name) (clash recipes)

-- the parsing of all files, and then the clash of names
abbrev pub OverSources : List Source → Result (List Recipe) Refusal → Type 0
OverSources sources = Then (Is (recipes_of sources)) (λ recipes. Then (Is (apart_of recipes)) (λ done. Is (Ok recipes)))

-- the reading of all files of the repository, and then their parsing
abbrev pub InRepository : Files → List ℕ → Result (List Recipe) Refusal → Type 0
InRepository files repo = Then (Is (pile_of files repo)) (λ pile. OverSources pile.files)

-- a problem of which no root is refused; no definition gives want of memory
abbrev pub unless_refused : Problem → Option ProblemFault → Result Problem Refusal
unless_refused problem None = Ok problem
unless_refused problem (Some (faults.UnknownRoot name)) = Err (refusals.UnknownRoot name)
unless_refused problem (Some (faults.VirtualRoot name)) = Err (refusals.VirtualRoot name)
unless_refused problem (Some (faults.WrongPlatform platform)) = Err (refusals.WrongPlatform platform)
unless_refused problem (Some faults.OutOfMemory) = Ok problem

-- the problem that recipes, settings, records and roots pose
unfoldable pub posed_by : List Recipe → Settings → List Record → List Spec → Result Problem Refusal
posed_by recipes settings records roots =
    let problem = problem_of recipes settings records roots in
    unless_refused problem (roots_fault problem)

-- the problem with the names that its nodes may have
abbrev pub input_of : Problem → Input
input_of problem = record { problem = problem; closure = closure_of problem }

-- what each input that is read has: the names of its problem, 1,024 at most, values for the variants of externals and records, and
-- counts within the limits
abbrev pub IsPosed : Input → Type 0
IsPosed input = (input.closure ≡ closure_of input.problem) × (length (closure_of input.problem) ≤ most_names)
    × (has_right_values input.problem ≡ true) × (is_within_limits input.problem ≡ true)

-- there are at most 1,024 such names
unfoldable pub closed_of : Problem → Result Input Refusal
closed_of problem = do
  few ← check refusals.TooManyPackages (nat_le (length (closure_of problem)) most_names)
  Ok (input_of problem)

-- what recipes, settings, records and roots are together
abbrev pub InputBy : List Recipe → Settings → List Record → List Spec → Result Input Refusal → Type 0
InputBy recipes settings records roots = Then (Is (posed_by recipes settings records roots)) (λ problem. Is (closed_of problem))

-- what settings, recipes and records are together
abbrev pub stock_of : Settings → List Recipe → List Record → Stock
stock_of settings recipes records = record { settings = settings; recipes = recipes; records = records }

-- the database, and then all three
abbrev pub Behind : Files → Command → Settings → List Recipe → Result Stock Refusal → Type 0
Behind files command settings recipes =
    Then (DatabaseAt files command.database) (λ records. Is (Ok (stock_of settings recipes records)))

-- the repository, and then what is behind it
abbrev pub OverSettings : Files → Command → Settings → Result Stock Refusal → Type 0
OverSettings files command settings = Then (InRepository files command.repo) (Behind files command settings)

-- what a command names over the files besides its specs: the settings are read first
abbrev pub StockAt : Files → Command → Result Stock Refusal → Type 0
StockAt files command = Then (SettingsAt files command.settings) (OverSettings files command)

-- the specs, and then the problem
abbrev pub OverSpecs : List ℕ → Stock → Result Input Refusal → Type 0
OverSpecs spec stock = Then (RootsOf spec) (λ roots. InputBy stock.recipes stock.settings stock.records roots)

-- what a command names over the files: the names are found last
abbrev pub ReadsInput : Files → Command → Result Input Refusal → Type 0
ReadsInput files command = Then (StockAt files command) (OverSpecs command.spec)

-- ---- what is looked for among installed packages

-- the problem of a stock without roots, of which none is refused, and the condition
abbrev pub query_of : Stock → Spec → Query
query_of stock spec = record { problem = problem_of stock.recipes stock.settings stock.records []; spec = spec }

-- the text as a condition
abbrev pub Sought : List ℕ → Stock → Result Query Refusal → Type 0
Sought text stock = Then (ConditionOf text) (λ spec. Is (Ok (query_of stock spec)))

-- what a command looks for over the files: no root is read, and no name that nodes may have is found
abbrev pub Seeks : Files → Command → Result Query Refusal → Type 0
Seeks files command = Then (StockAt files command) (Sought command.spec)

-- ---- faults of devices

-- what is read behind the settings: the folder of the packages and the recipes of the names in it; and behind these the database
abbrev pub IsPathBehind : Option Files → Command → List ℕ → Type 0
IsPathBehind told command path =
    IsReadPath told command.repo path
    ⊎ (IsBehind told (λ files. InRepository files command.repo) × IsFilePath command.database path)

-- what is read: the settings, and what is behind them
abbrev pub IsInputPath : Option Files → Command → List ℕ → Type 0
IsInputPath told command path =
    IsFilePath command.settings path
    ⊎ (IsBehind told (λ files. SettingsAt files command.settings) × IsPathBehind told command path)

-- a device fails only while such a path is read
abbrev pub FailsBehind : {A : Type 0} → Option Files → Command → Result A ReadStop → Type 0
FailsBehind told command (Err (reads.Fault path)) = IsPathBehind told command path
FailsBehind told command other = Unit {0}

abbrev pub FailsAtInput : {A : Type 0} → Option Files → Command → Result A ReadStop → Type 0
FailsAtInput told command (Err (reads.Fault path)) = IsInputPath told command path
FailsAtInput told command other = Unit {0}
