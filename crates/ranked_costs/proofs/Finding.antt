-- In each model the bits of costs spell the cost vector of the graph that it decodes to.
use Rattle.std.proofs.Common.{◌≡◌, sym, ap, ◌∙◌, Bool, true, ℕ, List, map, Some}
use Rattle.std.specs.List.Sorted.{IsPermutation}
use Rattle.clause_store.specs.declared.Lit.{Lit}
use Rattle.clause_store.specs.Clauses.{Clauses, Meets}
use Rattle.graph_core.specs.Graphs.{Text, Content}
use Rattle.problem.specs.Nodes.{IsWellFormed}
use Rattle.problem.specs.Problems.{Problem}
use Rattle.graph_rules.specs.Costs.{vector}
use Rattle.criteria_totals.specs.Spellings.{bits_for}
use Rattle.criteria_totals.specs.Totals.{values_at}
use Rattle.literal_table.specs.Tables.{Table, IsTable, block_name}
use Rattle.graph_levels.proofs.Growing.{meets-parts}
use Rattle.graph_encoding.proofs.Ranking.{all-said}
use Rattle.graph_encoding.specs.Formulas.{Formulas, IsRightTable, AreRightFormulas}
use Rattle.graph_encoding.specs.Encodings.{edges_made, levels_made, rules_on, encode_on, told_in}
use Rattle.graph_encoding.specs.Best.{SaysAll}
use Rattle.valid_models.specs.OfGraphDecoding.Decoding.{decode}
use Rattle.valid_models.specs.Tables.{table_for, size_for}
use Rattle.valid_models.specs.Targets.{conditions_of, targets_of}
use Rattle.valid_models.specs.Joined.{Places, holds_at}
use Rattle.valid_models.specs.Closures.{closure_formulas, closure_clauses}
use Rattle.ranked_costs.specs.CostBits.{AreCostBits}
use Rattle.term_builder.specs.Held.{held_in}
use Rattle.ranked_costs.specs.Given.{held_for}
use Rattle.ranked_costs.specs.Ranked.{closure_values}
use Rattle.ranked_costs.proofs.Steps.{same}

-- a model of an encoding says all of the graph that it decodes to
module _ (problem : Problem) (t : Table) (n : ℕ) (f : Formulas) (read : (ℕ → Bool) → Content) (right : IsRightTable problem t n f read)
    (targets : List Text) (holds : ℕ → Content → Bool) (says : AreRightFormulas problem t n f (told_in t targets) holds) where
  -- a model says all of the graph that it decodes to
  pub model-says : (asked v : ℕ → Bool) → Meets asked v (encode_on problem t n f targets).entries
      → SaysAll problem t n f targets holds v (read v) × IsWellFormed (read v)
  unfolding encode_on rules_on levels_made edges_made
  model-says asked v meets =
      let w = all-said problem t n f read right targets holds says asked v meets in
      (record { spells = w.0.0.0.0.0.0; edges = w.0.0.0.0.0.1; paths = w.0.0.0.0.1; conditions = w.0.0.0.1.0 }, w.1.0)

module _ (problem : Problem) (names : List Text) (place : Places) (order : List Text) where
  abbrev t : Table
  t = table_for problem names

  abbrev f : Formulas
  f = closure_formulas problem names place

  abbrev all : ℕ → Bool
  all d = true

  -- and its bits spell the graph's cost vector
  pub found : IsRightTable problem t (size_for problem names) f (λ v. decode v t)
      → AreRightFormulas problem t (size_for problem names) f (told_in t (targets_of problem t))
      (holds_at problem (conditions_of problem t))
      → (new : Clauses) (bits : List Lit) (tops : List ℕ)
      → AreCostBits (closure_clauses problem names place) new bits tops problem t
      (held_in (held_for problem t (closure_values problem names place))) order
      → IsTable t → IsPermutation (map block_name t.blocks) order → (v : ℕ → Bool) → Meets all v new.entries
      → bits_for tops (vector problem (decode v t)) ≡ Some (values_at v bits)
  found right says new bits tops costs table ordered v meets =
      let p = meets-parts (closure_clauses problem names place) new all v costs.totals.defines.says.grows meets in
      let w = model-says problem t (size_for problem names) f (λ v. decode v t) right (targets_of problem t)
      (holds_at problem (conditions_of problem t)) says
      all v p.0 in
      ap (bits_for tops) (sym (same problem names place order new bits tops costs table ordered v (decode v t) w.0 w.1))
      ∙ costs.totals.found all v p.1
