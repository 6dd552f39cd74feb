-- What the laws of words say.
use Rattle.std.specs.Prelude.{◌≡◌, ℕ, Bool, List}
use Rattle.clause_formulas.specs.Statements.{Statement, eval}
use Rattle.clause_formulas.specs.Rules.{Proposition, in_words}
use Rattle.graph_core.specs.Graphs.{Text, Content}
use Rattle.graph_core.specs.Paths.{reaches_in}
use Rattle.literal_table.specs.Choices.{choice_values}
use Rattle.literal_table.specs.Tables.{Table, packages_of}
use Rattle.literal_table.specs.Spells.{Spells}
use Rattle.graph_formulas.specs.Facts.{GraphWord, word_said}

-- an assignment spells a graph, and the formulas of paths say its paths
pub record SpellsPaths (v : ℕ → Bool) (path : Text → Text → Statement) (table : Table) (graph : Content) : Type 0 where
  pub facts : Spells v table graph
  pub paths : (from to : Text) → eval v (path from to) ≡ reaches_in graph from to

-- the names of packages that may provide a virtual
abbrev pub names_for : Table → Text → List Text
names_for table virtual = choice_values (packages_of table virtual)

-- the formula of a rule
abbrev pub rule_said : (Text → Text → Statement) → Table → Proposition GraphWord → Statement
rule_said path table rule = in_words (word_said path table) rule

-- whether it is true
abbrev pub says : (ℕ → Bool) → (Text → Text → Statement) → Table → Proposition GraphWord → Bool
says v path table rule = eval v (rule_said path table rule)
