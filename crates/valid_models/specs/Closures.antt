-- The clauses of the closure of a problem.
use Rattle.std.specs.Prelude.{◌≡◌, ℕ, ◌≤◌, Bool, true, List}
use Rattle.clause_store.specs.declared.Lit.{Lit}
use Rattle.clause_store.specs.Clauses.{Clauses, Meets}
use Rattle.graph_core.specs.Graphs.{Text, Content}
use Rattle.problem.specs.Nodes.{IsWellFormed}
use Rattle.problem.specs.Problems.{Problem}
use Rattle.problem.specs.Closure.{IsClosure}
use Rattle.table_plan.specs.Kept.{have_values}
use Rattle.literal_table.specs.Ranges.{IsTableBelow}
use Rattle.graph_decoding.specs.Structure.{structure}
use Rattle.graph_decoding.specs.Decoding.{decode, IsStructured}
use Rattle.literal_table.specs.Tables.{IsTable}
use Rattle.graph_levels.specs.Stages.{Decodes}
use Rattle.graph_encoding.specs.Formulas.{Formulas, MetBelow, IsRightTable, AreRightFormulas}
use Rattle.graph_encoding.specs.Encodings.{encode_on, told_in, IsValid}
use Rattle.graph_encoding.specs.Best.{met_for, SaysAll, OrdersBits, RanksGraphs}
use Rattle.valid_models.specs.Tables.{table_for, size_for}
use Rattle.valid_models.specs.Targets.{conditions_of, targets_of}
use Rattle.valid_models.specs.Joined.{Places, IsPlaced, formulas_for, holds_at}

module _ (problem : Problem) (names : List Text) (place : Places) where
  abbrev pub closure_formulas : Formulas
  closure_formulas = formulas_for problem (table_for problem names) (structure (table_for problem names))
      (conditions_of problem (table_for problem names)) place

  abbrev pub closure_clauses : Clauses
  closure_clauses = encode_on problem (table_for problem names) (size_for problem names) closure_formulas
      (targets_of problem (table_for problem names))

-- the table of a closure, its decoding and the formulas of its rules are right
abbrev pub ClosureIsRight : Type 0
ClosureIsRight = (problem : Problem) (names : List Text) (place : Places) → IsClosure problem names → have_values problem names ≡ true
    → IsPlaced (conditions_of problem (table_for problem names)) place
    → IsRightTable problem (table_for problem names) (size_for problem names) (closure_formulas problem names place)
    (λ v. decode v (table_for problem names))
    × AreRightFormulas problem (table_for problem names) (size_for problem names) (closure_formulas problem names place)
    (told_in (table_for problem names) (targets_of problem (table_for problem names)))
    (holds_at problem (conditions_of problem (table_for problem names)))

-- models of the clauses decode to just the valid graphs, for each set of demands
abbrev pub ClosureDecodes : Type 0
ClosureDecodes = (problem : Problem) (names : List Text) (place : Places) → IsClosure problem names → have_values problem names ≡ true
    → IsPlaced (conditions_of problem (table_for problem names)) place
    → Decodes (closure_clauses problem names place) (λ v. decode v (table_for problem names)) (IsValid problem)

-- a model of the clauses meets the structure of the table
abbrev pub ClosureStructured : Type 0
ClosureStructured = (problem : Problem) (names : List Text) (place : Places) → IsClosure problem names → have_values problem names ≡ true
    → IsPlaced (conditions_of problem (table_for problem names)) place
    → (asked v : ℕ → Bool) → Meets asked v (closure_clauses problem names place).entries → IsStructured v (table_for problem names)

-- the table is in order, and over so many variables
abbrev pub ClosureTable : Type 0
ClosureTable = (problem : Problem) (names : List Text) → IsClosure problem names
    → IsTable (table_for problem names) × IsTableBelow (size_for problem names) (table_for problem names)

-- the variables of the table, and those of what is defined for the conditions, are among those of the clauses
abbrev pub ClosureInRange : Type 0
ClosureInRange = (problem : Problem) (names : List Text) (place : Places) → IsClosure problem names → have_values problem names ≡ true
    → IsPlaced (conditions_of problem (table_for problem names)) place
    → (size_for problem names ≤ (closure_clauses problem names place).vars)
    × MetBelow (closure_clauses problem names place).vars (met_for problem (table_for problem names) (size_for problem names)
    (closure_formulas problem names place) (targets_of problem (table_for problem names)))

-- bits behind them that compare as sums, which are the graphs' numbers, rank the valid graphs
abbrev pub ClosureRanks : Type 0
ClosureRanks = (problem : Problem) (names : List Text) (place : Places) (new : Clauses) (bits : List Lit) (sums : (ℕ → Bool) → List ℕ)
    (numbers : Content → List ℕ) → IsClosure problem names → have_values problem names ≡ true
    → IsPlaced (conditions_of problem (table_for problem names)) place → OrdersBits (closure_clauses problem names place) new bits sums
    → ((v : ℕ → Bool) (g : Content) → SaysAll problem (table_for problem names) (size_for problem names)
    (closure_formulas problem names place)
    (targets_of problem (table_for problem names)) (holds_at problem (conditions_of problem (table_for problem names))) v g → IsWellFormed g
    → sums v ≡ numbers g)
    → RanksGraphs new (λ v. decode v (table_for problem names)) (IsValid problem) bits numbers
