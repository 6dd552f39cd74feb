-- The totals of the lists that were built are those of the costs.
use Rattle.std.proofs.Common.{◌≡◌, sym, ap, subst, ◌∙◌, ℕ, true, List}
use Rattle.clause_store.specs.declared.Lit.{Lit}
use Rattle.clause_store.specs.Clauses.{Clauses}
use Rattle.clause_formulas.specs.declared.defined.Defined.{Defined}
use Rattle.clause_formulas.specs.Drafts.{statement_at}
use Rattle.graph_core.specs.Graphs.{Text}
use Rattle.problem.specs.Problems.{Problem}
use Rattle.literal_table.specs.Tables.{Table}
use Rattle.graph_encoding.specs.Formulas.{MetBelow}
use Rattle.cost_terms.specs.declared.weighted.Weighted.{Weighted}
use Rattle.criteria_totals.specs.Spellings.{AllSmall}
use Rattle.cost_terms.specs.Weighed.{AllWeighedBelow, AreTotals, tops_said}
use Rattle.cost_terms.specs.Ranges.{IsTableBelow}
use Rattle.cost_terms.specs.Sums.{cost_terms}
use Rattle.cost_terms.proofs.Ranges.{costs-below}
use Rattle.ranked_costs.specs.CostBits.{AreCostBits}
use Rattle.term_builder.specs.Held.{HeldRow, held_in}
use Rattle.criteria_totals.specs.Totals.{Spelling}
use Rattle.cost_terms.specs.Built.{define_totals_on}
use Rattle.ranked_costs.specs.Given.{held_for}
use Rattle.ranked_costs.specs.Small.{are_small}
use Rattle.ranked_costs.specs.Built.{terms_for, rank_costs_on}
use Rattle.ranked_costs.proofs.SmallSums.{all-small}
use Rattle.ranked_costs.proofs.Ranges.{held-below}

module _ (problem : Problem) (t : Table) (values : List Defined) (order : List Text) (rows given : List HeldRow)
    (lists items : List (List Weighted))
    (made : rows ≡ held_for problem t values) (seen : given ≡ rows) (built : lists ≡ cost_terms problem t (held_in given) order)
    (taken : items ≡ lists) where
  items-are : items ≡ cost_terms problem t (held_in (held_for problem t values)) order
  items-are = taken ∙ built ∙ ap (λ held. cost_terms problem t (held_in held) order) (seen ∙ made)

  -- the lists are over the variables
  pub items-below : (n : ℕ) → IsTableBelow n t → MetBelow n (statement_at values) → AllWeighedBelow n items
  items-below n table below =
      subst (AllWeighedBelow n) (sym items-are)
      (costs-below n problem t (held_in (held_for problem t values)) table (held-below n problem t values below) order)

  -- their sums are small
  pub items-small : are_small (terms_for problem t values order) ≡ true → AllSmall (tops_said items)
  items-small small = subst (λ ls. AllSmall (tops_said ls)) (sym items-are) (all-small (terms_for problem t values order) small)

  -- so the bits are those of the costs
  pub are-cost-bits : (old new : Clauses) (bits : List Lit) (tops : List ℕ) → are_small (terms_for problem t values order) ≡ true
      → AreTotals old new bits tops items → AreCostBits old new bits tops problem t (held_in (held_for problem t values)) order
  are-cost-bits old new bits tops small totals = record {
    totals = subst (AreTotals old new bits tops) items-are totals;
    small = all-small (terms_for problem t values order) small;
  }

  -- the clauses and the bits are those of the definition
  pub rank-built : (old new : Clauses) (bits : Spelling) → define_totals_on old items ≡ record { list = new; answer = bits }
      → rank_costs_on old problem t values order ≡ record { list = new; answer = bits }
  unfolding rank_costs_on
  rank-built old new bits built = ap (define_totals_on old) (sym items-are) ∙ built
