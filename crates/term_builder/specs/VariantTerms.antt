-- The definitions of a variant one by one, and what they add.
use Rattle.std.specs.Prelude.{List, map}
use Rattle.std.specs.Borrow.{Bor}
use Rattle.clause_formulas.specs.Statements.{Statement, both_statements}
use Rattle.clause_formulas.specs.Drafts.{statement_of}
use Rattle.clause_formulas.specs.declared.defined.Defined.{Defined}
use Rattle.graph_core.specs.Graphs.{Text}
use Rattle.recipe_data.specs.declared.recipe.VariantRow.{VariantRow}
use Rattle.literal_table.specs.Choices.{Choices}
use Rattle.cost_terms.specs.declared.weighted.Weighted.{Weighted}
use Rattle.cost_terms.specs.Blocks.{none_among}
use Rattle.cost_terms.specs.Governing.{Row, formulas_of, other_terms, unused_terms}
use Rattle.term_builder.specs.declared.variant_terms.Counted.{Counted}
use Rattle.term_builder.specs.declared.variant_terms.Counted.TheVariants as counted

-- a definition, and the value of its condition
abbrev pub Held : Type 0
Held = VariantRow × Defined

-- with the formula that the value stands for
abbrev pub row_said : Held → Row
row_said held = (held.0, statement_of held.1)

-- those that are lent, each behind the name of its variant
abbrev pub rows_of : List (Bor Text × Bor Held) → List Row
rows_of lent = map (λ e. row_said e.1.now) lent

-- a condition holds, and none of later definitions
abbrev pub governs : Statement → List Row → Statement
governs f later = both_statements f (none_among (formulas_of later))

-- what is counted of a variant where a definition governs
abbrev pub counted_terms : Counted → Row → Choices Text → List Weighted
counted_terms counted.Others r values = other_terms r values
counted_terms counted.Unused r values = unused_terms r values
