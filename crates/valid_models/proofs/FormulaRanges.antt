-- The formulas of a problem are over the variables that paths and conditions are over.
use Rattle.std.proofs.Common.{ℕ, ◌≤◌, List, map, Option, Some, None}
use Rattle.clause_formulas.specs.Statements.{Statement, SaidBelow}
use Rattle.clause_formulas.specs.Rules.{Proposition}
use Rattle.clause_formulas.proofs.RuleLaws.{rule-below}
use Rattle.clause_formulas.proofs.Words.{all_of-below}
use Rattle.graph_core.specs.Graphs.{Text}
use Rattle.recipe_data.specs.OfSpecGrammar.Condition.{Condition}
use Rattle.problem.specs.Problems.{Problem, world_of}
use Rattle.literal_table.specs.Tables.{Table}
use Rattle.graph_formulas.specs.Facts.{word_said}
use Rattle.graph_formulas.specs.Words.{names_for}
use Rattle.graph_formulas.specs.Parts.{condition_rule}
use Rattle.graph_formulas.specs.Terms.{Term, known, met, term_said}
use Rattle.graph_formulas.specs.Laws.{term_formula}
use Rattle.graph_encoding.specs.Formulas.{PathFormulas, PathsBelow, MetBelow}
use Rattle.valid_models.specs.Joined.{Places, placed_or, condition_said, condition_by, row_said, WordsBelow}
use Rattle.valid_models.proofs.Lists.{listed-below}

module _ (problem : Problem) (t : Table) (n : ℕ) (words : WordsBelow n t) (m : ℕ) (path : PathFormulas) (le : n ≤ m)
    (paths : PathsBelow m path) where
  -- of a condition
  pub when-below : (name : Text) (when : Condition) → SaidBelow m (condition_said problem t path name when)
  when-below name when = rule-below m (word_said path t) (words m path le paths) (condition_rule (world_of problem) (names_for t) name when)

  module _ (place : Places) (met_by : ℕ → Statement) (mets : MetBelow m met_by) where
    term-below : (w : Term) → SaidBelow m (term_said path (condition_by problem t place path met_by) t w)
    term-below (known rule) = rule-below m (word_said path t) (words m path le paths) rule
    term-below (met name when) = term-below-cases (place name when)
      where
        term-below-cases : (o : Option ℕ) → SaidBelow m (placed_or met_by (condition_said problem t path name when) o)
        term-below-cases None = when-below name when
        term-below-cases (Some k) = mets k

    -- of a rule
    pub formula-below : (rule : Proposition Term) → SaidBelow m (term_formula path (condition_by problem t place path met_by) t rule)
    formula-below rule = rule-below m (term_said path (condition_by problem t place path met_by) t) term-below rule

    -- of a rule at each of its names
    pub row-below : (row : (Text → Proposition Term) × List Text)
        → SaidBelow m (row_said problem t path (condition_by problem t place path met_by) row)
    row-below row = all_of-below m (map (λ name. term_formula path (condition_by problem t place path met_by) t (row.0 name)) row.1)
        (listed-below m (λ name. term_formula path (condition_by problem t place path met_by) t (row.0 name))
        (λ name. formula-below (row.0 name)) row.1)
