-- The bits of a problem's costs.
use Rattle.std.specs.Prelude.{ℕ, List}
use Rattle.clause_store.specs.declared.Lit.{Lit}
use Rattle.clause_store.specs.Clauses.{Clauses}
use Rattle.graph_core.specs.Graphs.{Text}
use Rattle.problem.specs.Problems.{Problem}
use Rattle.criteria_totals.specs.Spellings.{AllSmall}
use Rattle.literal_table.specs.Tables.{Table}
use Rattle.cost_terms.specs.Weighed.{AreTotals, tops_said}
use Rattle.cost_terms.specs.Terms.{Held}
use Rattle.cost_terms.specs.Sums.{cost_terms}

-- bits of a problem's costs: what the longer list of clauses defines, where no sum is too large
pub record AreCostBits (old new : Clauses) (bits : List Lit) (tops : List ℕ) (problem : Problem) (table : Table) (held : Held)
    (order : List Text) : Type 0 where
  pub totals : AreTotals old new bits tops (cost_terms problem table held order)
  pub small : AllSmall (tops_said (cost_terms problem table held order))
