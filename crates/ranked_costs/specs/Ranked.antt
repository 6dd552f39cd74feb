-- The clauses of a closure, with the bits of costs behind them.
use Rattle.std.specs.Prelude.{◌≡◌, ℕ, ◌≤◌, Bool, true, List, length, map, Some}
use Rattle.std.specs.List.Sorted.{IsPermutation}
use Rattle.clause_store.specs.declared.Lit.{Lit}
use Rattle.clause_store.specs.Clauses.{Clauses, Meets}
use Rattle.clause_formulas.specs.declared.defined.Defined.{Defined}
use Rattle.clause_formulas.specs.Drafts.{statement_at}
use Rattle.graph_core.specs.Graphs.{Text}
use Rattle.problem.specs.Problems.{Problem}
use Rattle.problem.specs.Closure.{IsClosure}
use Rattle.graph_rules.specs.Costs.{vector}
use Rattle.literal_table.specs.Tables.{block_name}
use Rattle.criteria_totals.specs.Spellings.{bits_for}
use Rattle.criteria_totals.specs.Totals.{values_at}
use Rattle.table_plan.specs.Kept.{have_values}
use Rattle.valid_models.specs.OfGraphDecoding.Decoding.{decode}
use Rattle.graph_encoding.specs.Formulas.{MetBelow}
use Rattle.graph_encoding.specs.Encodings.{IsValid}
use Rattle.graph_encoding.specs.Best.{values_for, RanksGraphs}
use Rattle.valid_models.specs.Tables.{table_for, size_for}
use Rattle.valid_models.specs.Targets.{conditions_of, targets_of}
use Rattle.valid_models.specs.Joined.{Places, IsPlaced}
use Rattle.valid_models.specs.Closures.{closure_formulas, closure_clauses}
use Rattle.cost_terms.specs.Ranges.{IsTableBelow}
use Rattle.problem.specs.Limits.{is_within_limits, most_names}
use Rattle.ranked_costs.specs.Small.{are_small}
use Rattle.ranked_costs.specs.CostBits.{AreCostBits}
use Rattle.term_builder.specs.Held.{held_in}
use Rattle.ranked_costs.specs.Given.{held_for}
use Rattle.ranked_costs.specs.Built.{terms_for}

-- what is defined for the conditions of all directives
abbrev pub closure_values : Problem → List Text → Places → List Defined
closure_values problem names place =
    values_for problem (table_for problem names) (size_for problem names) (closure_formulas problem names place)
    (targets_of problem (table_for problem names))

-- the variables of the table and of these values are among those of the clauses
abbrev pub ClosureInRange : Type 0
ClosureInRange = (problem : Problem) (names : List Text) (place : Places) → IsClosure problem names → have_values problem names ≡ true
    → IsPlaced (conditions_of problem (table_for problem names)) place
    → IsTableBelow (closure_clauses problem names place).vars (table_for problem names)
    × MetBelow (closure_clauses problem names place).vars (statement_at (closure_values problem names place))

-- within the limits the weights of each of the 31 lists of terms add up to less than 2^63
abbrev pub ClosureSmall : Type 0
ClosureSmall = (problem : Problem) (names : List Text) (values : List Defined) (order : List Text) → is_within_limits problem ≡ true
    → IsClosure problem names → length names ≤ most_names → IsPermutation (map block_name (table_for problem names).blocks) order
    → are_small (terms_for problem (table_for problem names) values order) ≡ true

-- the bits of costs rank the valid graphs by their cost vectors, whatever the order of the names
abbrev pub ClosureCosts : Type 0
ClosureCosts = (problem : Problem) (names : List Text) (place : Places) (new : Clauses) (bits : List Lit) (tops : List ℕ)
    (order : List Text)
    → IsClosure problem names → have_values problem names ≡ true → IsPlaced (conditions_of problem (table_for problem names)) place
    → IsPermutation (map block_name (table_for problem names).blocks) order
    → AreCostBits (closure_clauses problem names place) new bits tops problem (table_for problem names)
    (held_in (held_for problem (table_for problem names) (closure_values problem names place))) order
    → RanksGraphs new (λ v. decode v (table_for problem names)) (IsValid problem) bits (vector problem)

-- in each model of all clauses the bits have the values that spell the cost vector of its graph
abbrev pub ClosureSpells : Type 0
ClosureSpells = (problem : Problem) (names : List Text) (place : Places) (new : Clauses) (bits : List Lit) (tops : List ℕ)
    (order : List Text)
    → IsClosure problem names → have_values problem names ≡ true → IsPlaced (conditions_of problem (table_for problem names)) place
    → IsPermutation (map block_name (table_for problem names).blocks) order
    → AreCostBits (closure_clauses problem names place) new bits tops problem (table_for problem names)
    (held_in (held_for problem (table_for problem names) (closure_values problem names place))) order
    → (v : ℕ → Bool) → Meets (λ d. true) v new.entries
    → bits_for tops (vector problem (decode v (table_for problem names))) ≡ Some (values_at v bits)
