-- The encoding of the definition encodes its problem, whoever makes it.
use Rattle.std.proofs.Common.{◌≡◌, refl, ℕ, ◌≤◌, true, List, length}
use Rattle.std.specs.List.Sorted.{IsPermutation}
use Rattle.clause_store.specs.declared.Lit.{Lit}
use Rattle.clause_store.specs.Clauses.{Clauses}
use Rattle.clause_circuits.specs.Gates.{Made, with_gates}
use Rattle.clause_circuits.specs.Steps.{plan_at}
use Rattle.clause_formulas.specs.Built.{Grown}
use Rattle.clause_formulas.specs.Drafts.{statement_at}
use Rattle.criteria_totals.specs.Totals.{IsTotals, tops, totals_on}
use Rattle.criteria_totals.proofs.TotalLaws.{totals-are}
use Rattle.graph_core.specs.Graphs.{Text}
use Rattle.problem.specs.Closure.{IsClosure}
use Rattle.problem.specs.Limits.{is_within_limits, most_names}
use Rattle.problem.specs.Problems.{Problem, root_names}
use Rattle.possible_closure.specs.Closures.{closure_of}
use Rattle.literal_table.specs.Tables.{Table, table_names}
use Rattle.problem_formulas.specs.Given.{no_place}
use Rattle.problem_formulas.specs.OfGraphEncoding.Formulas.{MetBelow}
use Rattle.cost_terms.specs.declared.weighted.Weighted.{Weighted}
use Rattle.cost_terms.specs.Built.{define_totals_on}
use Rattle.cost_terms.specs.Weighed.{AllWeighedBelow, AreTotals, lists_on}
use Rattle.cost_terms.proofs.Steps.{are-totals}
use Rattle.cost_terms.proofs.TermLaws.{DefinesLists, lists_is}
use Rattle.ranked_costs.specs.Built.{rank_costs_on, terms_for}
use Rattle.ranked_costs.specs.Given.{held_for}
use Rattle.ranked_costs.specs.OfCostTerms.Ranges.{IsTableBelow}
use Rattle.ranked_costs.specs.OfTablePlan.Kept.{have_values}
use Rattle.ranked_costs.specs.OfValidModels.Closures.{ClosureStructured}
use Rattle.ranked_costs.specs.Ranked.{ClosureCosts, ClosureInRange, ClosureSmall, ClosureSpells}
use Rattle.ranked_costs.specs.Small.{are_small}
use Rattle.ranked_costs.specs.Walks.{post_order}
use Rattle.ranked_costs.proofs.Lists.{items-below}
use Rattle.ranked_costs.proofs.SmallSums.{all-small}
use Rattle.problem_encoding.specs.Built.{encoding_of, order_in, rule_clauses, rule_values, table_of}
use Rattle.problem_encoding.specs.Encodings.{IsEncoded}
use Rattle.problem_encoding.proofs.Ruled.{unplaced}
use Rattle.problem_encoding.proofs.Whole.{whole}

module _ (problem : Problem) (closure : IsClosure problem (closure_of problem)) (has : have_values problem (closure_of problem) ≡ true)
    (limits : is_within_limits problem ≡ true) (few : length (closure_of problem) ≤ most_names)
    (range : ClosureInRange) (small : ClosureSmall) (ranks : ClosureCosts) (spells : ClosureSpells) (structured : ClosureStructured)
    (each : (t : Table) (roots : List Text) → IsPermutation (table_names t) (post_order t roots)) where
  abbrev lists : List (List Weighted)
  lists = terms_for problem (table_of problem) (rule_values problem) (order_in problem (table_of problem))

  abbrev listed : Grown (List (List (ℕ × Lit)))
  listed = lists_on (rule_clauses problem) lists

  abbrev summed : Made (List Lit)
  summed = totals_on (plan_at listed.list) listed.answer

  abbrev new : Clauses
  new = with_gates listed.list summed.plan.gates

  over : IsTableBelow (rule_clauses problem).vars (table_of problem)
      × MetBelow (rule_clauses problem).vars (statement_at (rule_values problem))
  over = range problem (closure_of problem) no_place closure has (unplaced problem (closure_of problem))

  are-small : are_small lists ≡ true
  are-small = small problem (closure_of problem) (rule_values problem) (order_in problem (table_of problem)) limits closure few
      (each (table_of problem) (root_names problem))

  below : AllWeighedBelow (rule_clauses problem).vars lists
  below = items-below problem (table_of problem) (rule_values problem) (order_in problem (table_of problem))
      (held_for problem (table_of problem) (rule_values problem)) (held_for problem (table_of problem) (rule_values problem)) lists lists
      refl refl refl refl (rule_clauses problem).vars over.0 over.1

  made : DefinesLists (rule_clauses problem) listed.list listed.answer lists
  made = lists_is (rule_clauses problem) lists below

  totals : IsTotals listed.list new summed.answer listed.answer
  totals = totals-are listed.list listed.answer summed.plan summed.answer made.below (made.small (all-small lists are-small)) refl new refl

  costed : AreTotals (rule_clauses problem) new summed.answer (tops listed.answer) lists
  costed = are-totals (rule_clauses problem) listed.list new lists listed.answer summed.answer (tops listed.answer) made totals refl

  -- it encodes its problem
  pub encoded : IsEncoded problem (encoding_of problem)
  unfolding encoding_of rank_costs_on define_totals_on
  encoded = whole problem (closure_of problem) no_place closure has (unplaced problem (closure_of problem)) ranks spells structured
      (table_of problem) (rule_clauses problem) (rule_values problem) refl refl refl new
      (record { lits = summed.answer; tops = tops listed.answer })
      (order_in problem (table_of problem)) (each (table_of problem) (root_names problem))
      (record { totals = costed; small = all-small lists are-small })
