-- Clauses with the bits of costs behind them are an encoding.
use Rattle.std.proofs.Common.{◌≡◌, sym, subst, true, List, map}
use Rattle.std.specs.List.Sorted.{IsPermutation}
use Rattle.clause_store.specs.Clauses.{Clauses}
use Rattle.clause_formulas.specs.declared.defined.Defined.{Defined}
use Rattle.graph_core.specs.Graphs.{Text}
use Rattle.problem.specs.Problems.{Problem}
use Rattle.problem.specs.Closure.{IsClosure}
use Rattle.criteria_totals.specs.Totals.{Spelling}
use Rattle.literal_table.specs.Tables.{Table, block_name}
use Rattle.graph_levels.proofs.Growing.{meets-parts}
use Rattle.ranked_costs.specs.OfTablePlan.Kept.{have_values}
use Rattle.ranked_costs.specs.OfValidModels.Tables.{table_for}
use Rattle.ranked_costs.specs.OfValidModels.Targets.{conditions_of}
use Rattle.ranked_costs.specs.OfValidModels.Joined.{Places, IsPlaced}
use Rattle.ranked_costs.specs.OfValidModels.Closures.{closure_clauses, ClosureStructured}
use Rattle.ranked_costs.specs.CostBits.{AreCostBits}
use Rattle.ranked_costs.specs.OfTermBuilder.Held.{held_in}
use Rattle.ranked_costs.specs.Given.{held_for}
use Rattle.clause_formulas.specs.Drafts.{statement_at}
use Rattle.problem_formulas.specs.OfGraphEncoding.Formulas.{MetBelow}
use Rattle.ranked_costs.specs.OfCostTerms.Ranges.{IsTableBelow}
use Rattle.ranked_costs.specs.Ranked.{closure_values, ClosureInRange, ClosureCosts, ClosureSpells}
use Rattle.problem_encoding.specs.Encodings.{AreCosted}

-- from the bits of costs behind these clauses
abbrev pub FromBits : Problem → Table → Clauses → List Defined → Type 0
FromBits problem t old values = (new : Clauses) (bits : Spelling) (order : List Text) → IsPermutation (map block_name t.blocks) order
    → AreCostBits old new bits.lits bits.tops problem t (held_in (held_for problem t values)) order → AreCosted problem t new bits

module _ (problem : Problem) (names : List Text) (place : Places) (closure : IsClosure problem names)
    (has : have_values problem names ≡ true)
    (placed : IsPlaced (conditions_of problem (table_for problem names)) place) (ranks : ClosureCosts) (spells : ClosureSpells)
    (structured : ClosureStructured) where
  direct : FromBits problem (table_for problem names) (closure_clauses problem names place) (closure_values problem names place)
  direct new bits order each are = record {
    encodes = ranks problem names place new bits.lits bits.tops order closure has placed each are;
    in_range = are.totals.below;
    structured = λ v meets. structured problem names place closure has placed (λ d. true) v
        (meets-parts (closure_clauses problem names place) new (λ d. true) v are.totals.defines.says.grows meets).0;
    spells = spells problem names place new bits.lits bits.tops order closure has placed each are;
  }

  -- clauses with the bits behind them are an encoding
  pub whole : (t : Table) (old : Clauses) (values : List Defined) → t ≡ table_for problem names → old ≡ closure_clauses problem names place
      → values ≡ closure_values problem names place → FromBits problem t old values
  whole t old values e o w =
      subst (λ s. FromBits problem s old values) (sym e)
      (subst (λ s. FromBits problem (table_for problem names) s values) (sym o)
      (subst (λ s. FromBits problem (table_for problem names) (closure_clauses problem names place) s) (sym w) direct))

module _ (problem : Problem) (names : List Text) (place : Places) (closure : IsClosure problem names)
    (has : have_values problem names ≡ true)
    (placed : IsPlaced (conditions_of problem (table_for problem names)) place) (range : ClosureInRange) where
  abbrev InRange : Table → Clauses → List Defined → Type 0
  InRange t old values = IsTableBelow old.vars t × MetBelow old.vars (statement_at values)

  -- the table and the values of the conditions are over the variables of the clauses
  pub in-range : (t : Table) (old : Clauses) (values : List Defined) → t ≡ table_for problem names
      → old ≡ closure_clauses problem names place
      → values ≡ closure_values problem names place → InRange t old values
  in-range t old values e o w =
      subst (λ s. InRange s old values) (sym e)
      (subst (λ s. InRange (table_for problem names) s values) (sym o)
      (subst (λ s. InRange (table_for problem names) (closure_clauses problem names place) s) (sym w)
      (range problem names place closure has placed)))
