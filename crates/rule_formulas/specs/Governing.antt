-- Which definition of a variant governs, as formulas.
use Rattle.std.specs.Prelude.{ℕ, List, [], ◌∷◌, map}
use Rattle.std.specs.Borrow.{Bor}
use Rattle.clause_formulas.specs.Statements.{Statement, any_statement, both_statements, opposite}
use Rattle.clause_formulas.specs.Rules.{Proposition}
use Rattle.graph_core.specs.Graphs.{Text}
use Rattle.recipe_data.specs.OfSpecGrammar.Condition.{Condition}
use Rattle.recipe_data.specs.declared.recipe.VariantRow.{VariantRow}
use Rattle.literal_table.specs.Tables.{Table}
use Rattle.graph_formulas.specs.Lists.{last_halved}
use Rattle.graph_formulas.specs.Terms.{Term, known_rule, met_rule}
use Rattle.graph_formulas.specs.Variants.{allows_rule}
use Rattle.word_formulas.specs.Builders.{plain_said}
use Rattle.rule_formulas.specs.Terms.{plain_term}

-- the definitions of one variant
abbrev pub Definitions : Type 0
Definitions = List (Bor VariantRow)

-- the condition of some definition is met
abbrev pub met_said : (Text → Condition → Statement) → Text → Definitions → Statement
met_said condition name rows = any_statement (map (λ row. condition name row.now.when) rows)

module _ (t : Table) (condition : Text → Condition → Statement) (name variant : Text) where
  -- the condition is met, and none of the later definitions; and the definition allows the values
  abbrev pub governs_said : VariantRow → Definitions → Statement
  governs_said row rest = both_statements (both_statements (opposite (met_said condition name rest)) (condition name row.when))
      (plain_said t (allows_rule name variant row))

  -- of each of these definitions
  abbrev pub last_parts : Definitions → List Statement
  last_parts [] = []
  last_parts (row ∷ rows) = governs_said row.now rows ∷ last_parts rows

abbrev pub met_by : Text → Bor VariantRow → Proposition Term
met_by name row = met_rule name row.now.when

abbrev pub allowed_by : Text → Text → Bor VariantRow → Proposition Term
allowed_by name variant row = known_rule (allows_rule name variant row.now)

-- some definition governs, and allows the values: the list is halved, so many times at most
abbrev pub last_said : Table → (Text → Condition → Statement) → Text → Text → ℕ → Definitions → Statement
last_said t condition name variant times rows = plain_term t condition (last_halved times (met_by name) (allowed_by name variant) rows)
