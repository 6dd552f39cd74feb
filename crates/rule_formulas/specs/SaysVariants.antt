-- What the builder of a variant says: formulas of its definitions, over what it holds.
use Rattle.std.specs.Prelude.{ℕ, List}
use Rattle.clause_formulas.specs.Statements.{Statement}
use Rattle.graph_core.specs.Graphs.{Text}
use Rattle.recipe_data.specs.OfSpecGrammar.Condition.{Condition}
use Rattle.recipe_data.specs.declared.recipe.VariantRow.{VariantRow}
use Rattle.rule_formulas.specs.Governing.{Definitions, met_said, governs_said, last_parts, last_said}
use Rattle.rule_formulas.specs.declared.variants.VariantBuilder.{VariantBuilder}

-- the formulas of conditions come first
module _ {C : Type 0} (condition_of : C → Text → Condition → Statement) (b : VariantBuilder C) where
  -- the condition of some definition is met
  abbrev pub met_by_some : Definitions → Statement
  met_by_some rows = met_said (condition_of b.conditions.now) b.name.now rows

  -- the definition governs, of those that begin with it, and allows the values
  abbrev pub governs_by : VariantRow → Definitions → Statement
  governs_by row rest = governs_said b.scribe.table.now (condition_of b.conditions.now) b.name.now b.variant.now row rest

  -- of each of these definitions
  abbrev pub each_governs : Definitions → List Statement
  each_governs rows = last_parts b.scribe.table.now (condition_of b.conditions.now) b.name.now b.variant.now rows

  -- some definition governs, and allows the values: the list is halved, so many times at most
  abbrev pub last_by : ℕ → Definitions → Statement
  last_by times rows = last_said b.scribe.table.now (condition_of b.conditions.now) b.name.now b.variant.now times rows
