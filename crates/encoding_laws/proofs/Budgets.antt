-- The budget of the settings changes no clause.
use Rattle.std.proofs.Common.{◌≡◌, refl, ℕ, List}
use Rattle.clause_store.specs.Clauses.{Clauses}
use Rattle.clause_formulas.specs.declared.defined.Defined.{Defined}
use Rattle.cost_terms.specs.Sums.{cost_terms}
use Rattle.cost_terms.specs.Terms.{criteria_terms, summed_terms}
use Rattle.graph_core.specs.Graphs.{Text}
use Rattle.graph_rules.specs.Kept.{external_node}
use Rattle.graph_rules.specs.Weights.{is_deprecated, version_weight}
use Rattle.problem.specs.Closure.{is_known, next_names}
use Rattle.problem.specs.Demands.{demands}
use Rattle.problem.specs.Problems.{Problem, package_entry_of, record_at, with_budget}
use Rattle.possible_closure.specs.Closures.{brings, closure_of, known_names}
use Rattle.table_plan.specs.Kept.{kept_nodes}
use Rattle.table_plan.specs.Plans.{answerable, asked_virtuals, can_build, offered, plan_of, possible_at, possible_edges, possible_packages, variant_names, variant_values, wanted_names, wanted_virtuals}
use Rattle.literal_table.specs.Tables.{Table}
use Rattle.problem_formulas.specs.Given.{formulas_given, no_place}
use Rattle.problem_formulas.specs.OfGraphEncoding.Best.{values_for}
use Rattle.problem_formulas.specs.OfGraphEncoding.Encodings.{encode_on, levels_made, rules_on}
use Rattle.problem_formulas.specs.OfGraphEncoding.Formulas.{Formulas}
use Rattle.ranked_costs.specs.Built.{rank_costs_on}
use Rattle.ranked_costs.specs.OfValidModels.Closures.{closure_clauses}
use Rattle.ranked_costs.specs.OfValidModels.Tables.{size_for, table_for}
use Rattle.ranked_costs.specs.OfValidModels.Targets.{targets_of}
use Rattle.ranked_costs.specs.Ranked.{closure_values}
use Rattle.problem_encoding.specs.Built.{encoding_of, order_in, rule_clauses}

module _ (problem : Problem) (budget : ℕ) where
  abbrev other : Problem
  other = with_budget budget problem

  -- ---- names, and the table over them

  same-closure : closure_of other ≡ closure_of problem
  unfolding closure_of brings known_names is_known next_names package_entry_of record_at
  same-closure = refl

  same-table : (names : List Text) → table_for other names ≡ table_for problem names
  unfolding plan_of possible_at possible_edges possible_packages variant_names variant_values wanted_names wanted_virtuals answerable
      asked_virtuals can_build offered kept_nodes external_node package_entry_of record_at is_known next_names
  same-table names = refl

  same-size : (names : List Text) → size_for other names ≡ size_for problem names
  unfolding plan_of possible_at possible_edges possible_packages variant_names variant_values wanted_names wanted_virtuals answerable
      asked_virtuals can_build offered kept_nodes external_node package_entry_of record_at is_known next_names
  same-size names = refl

  -- ---- formulas and clauses, over any table

  same-formulas : (t : Table) → formulas_given other t ≡ formulas_given problem t
  unfolding external_node package_entry_of record_at
  same-formulas t = refl

  same-targets : (t : Table) → targets_of other t ≡ targets_of problem t
  unfolding package_entry_of
  same-targets t = refl

  clauses-over : (t : Table) (n : ℕ) (f : Formulas) (targets : List Text) → encode_on other t n f targets ≡ encode_on problem t n f targets
  unfolding encode_on levels_made rules_on demands package_entry_of
  clauses-over t n f targets = refl

  values-over : (t : Table) (n : ℕ) (f : Formulas) (targets : List Text) → values_for other t n f targets ≡ values_for problem t n f targets
  unfolding levels_made
  values-over t n f targets = refl

  same-clauses : (names : List Text) → closure_clauses other names no_place ≡ closure_clauses problem names no_place
  same-clauses names = λ i.
      let t = same-table names i in clauses-over t (same-size names i) (same-formulas t i) (same-targets t i) i

  same-values : (names : List Text) → closure_values other names no_place ≡ closure_values problem names no_place
  same-values names = λ i.
      let t = same-table names i in values-over t (same-size names i) (same-formulas t i) (same-targets t i) i

  same-ranks : (s : Clauses) (t : Table) (values : List Defined) (order : List Text)
      → rank_costs_on s other t values order ≡ rank_costs_on s problem t values order
  unfolding rank_costs_on cost_terms criteria_terms summed_terms version_weight is_deprecated package_entry_of
  same-ranks s t values order = refl

  -- ---- the whole

  -- the budget changes no clause of the rules
  pub same-rules : rule_clauses other ≡ rule_clauses problem
  same-rules = λ i. same-clauses (same-closure i) i

  -- nor any clause or bit of the encoding
  pub same-encoding : encoding_of other ≡ encoding_of problem
  unfolding encoding_of
  same-encoding = λ i.
      let names = same-closure i in
      let t = same-table names i in
      let made = same-ranks (same-clauses names i) t (same-values names i) (order_in problem t) i in
      record { clauses = made.list; bits = made.answer; table = t }
