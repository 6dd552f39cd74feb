-- The clauses with the bits of costs, as a function of the clauses before; and where the numbers
-- end among their bits.
use Rattle.std.specs.Prelude.{ℕ, ◌+◌, ◌-◌, ◌^◌, List, [], ◌∷◌, min, nat_le, if◌then◌else◌}
use Rattle.clause_store.specs.Clauses.{Clauses}
use Rattle.clause_circuits.specs.Binary.{size}
use Rattle.clause_formulas.specs.declared.defined.Defined.{Defined}
use Rattle.clause_formulas.specs.Built.{Grown}
use Rattle.graph_core.specs.Graphs.{Text}
use Rattle.problem.specs.Problems.{Problem}
use Rattle.criteria_totals.specs.Totals.{Spelling}
use Rattle.literal_table.specs.Tables.{Table}
use Rattle.cost_terms.specs.declared.weighted.Weighted.{Weighted}
use Rattle.cost_terms.specs.Built.{define_totals_on}
use Rattle.cost_terms.specs.Sums.{cost_terms}
use Rattle.term_builder.specs.Held.{held_in}
use Rattle.ranked_costs.specs.Given.{held_for}

-- the terms of the 31 numbers
abbrev pub terms_for : Problem → Table → List Defined → List Text → List (List Weighted)
terms_for problem t values order = cost_terms problem t (held_in (held_for problem t values)) order

-- the clauses with the bits of the costs behind them, and these bits
unfoldable pub rank_costs_on : Clauses → Problem → Table → List Defined → List Text → Grown Spelling
rank_costs_on s problem t values order = define_totals_on s (terms_for problem t values order)

-- how many bits spell the numbers up to a top
abbrev pub width_of : ℕ → ℕ
width_of top = if nat_le top 64 then top else size top

-- the place behind the last bit of each number; a place is below 2^64
abbrev pub ends_from : ℕ → List ℕ → List ℕ
ends_from end [] = []
ends_from end (top ∷ tops) =
    let next = min (end + width_of top) (2 ^ 64 - 1) in
    next ∷ ends_from next tops
