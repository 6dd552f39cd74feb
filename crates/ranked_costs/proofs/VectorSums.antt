-- The sums of a graph that an assignment says all of are its cost vector.
use Rattle.std.proofs.Common.{◌≡◌, refl, sym, ap, ◌∙◌, Bool, true, false, ℕ, ◌*◌, ◌-◌, ◌≤◌, List, [], ◌∷◌, map, Option, Some, None, arith}
use Rattle.std.specs.Prelude.{if◌then◌else◌}
use Rattle.std.specs.List.Sorted.{IsPermutation}
use Rattle.std.proofs.lemmas.List.Sums.{sum_by-cons}
use Rattle.clause_circuits.specs.Cells.{bit}
use Rattle.clause_formulas.specs.Statements.{Statement, eval, never, no}
use Rattle.graph_core.specs.Graphs.{Text, Content, IsGraph}
use Rattle.recipe_data.specs.declared.recipe.VariantRow.{VariantRow}
use Rattle.condition_rules.specs.Holds.{all_hold}
use Rattle.problem.specs.Problems.{Problem, world_of, variants_at}
use Rattle.graph_rules.specs.Costs.{vector, stopped}
use Rattle.criteria_totals.specs.Spellings.{AllSmall}
use Rattle.literal_table.specs.Tables.{Table, IsTable, block_name, block_of}
use Rattle.literal_table.specs.Spells.{Spells}
use Rattle.literal_table.specs.declared.block.Block.{Block}
use Rattle.literal_table.proofs.Spelling.{found-named}
use Rattle.cost_terms.specs.declared.weighted.Weighted.{Weighted}
use Rattle.cost_terms.specs.Weighed.{weight_said, sum_said, sums_said, top_said, tops_said}
use Rattle.cost_terms.specs.Terms.{Held}
use Rattle.cost_terms.specs.Sums.{cost_terms, HoldSaid}
use Rattle.cost_terms.proofs.Whole.{vector-is}
use Rattle.ranked_costs.proofs.Agreeing.{same-terms}

-- a weight counts at most once
at-most : (b : Bool) (w : ℕ) → w * bit b ≤ w
at-most true w = omega arith
at-most false w = omega arith

-- a sum is at most its greatest value
within-top : (v : ℕ → Bool) (ts : List Weighted) → sum_said v ts ≤ top_said ts
within-top v [] = omega arith
within-top v (t ∷ ts) =
    omega (
      arith,
      within-top v ts,
      at-most (eval v t.formula) t.weight,
      sum_by-cons (weight_said v) t ts,
      sum_by-cons (λ (t : Weighted). t.weight) t ts,
    )

-- no sum is stopped
pub unstopped : (v : ℕ → Bool) (lists : List (List Weighted)) → AllSmall (tops_said lists)
    → map stopped (sums_said v lists) ≡ sums_said v lists
unstopped v [] small = refl
unstopped v (ts ∷ lists) small =
    let low = within-top v ts in
    let less = small.0 in
    let same : stopped (sum_said v ts) ≡ sum_said v ts = omega arith in λ i. same i ∷ unstopped v lists small.1 i

-- ---- the sums are the cost vector

-- the formula that is always, or never, true
abbrev fixed : Bool → Statement
fixed b = if b then no never else never

fixed-is : (v : ℕ → Bool) (b : Bool) → eval v (fixed b) ≡ b
fixed-is v true = refl
fixed-is v false = refl

module _ (problem : Problem) (t : Table) (held : Held) (order : List Text) (v : ℕ → Bool) (g : Content) where
  -- where the conditions of a name's definitions of variants hold
  abbrev pub holding : Text → List Bool
  holding name = map (λ row. all_hold (world_of problem) row.when g name) (variants_at problem name)

  -- the same formulas at the table's names, and constants elsewhere
  abbrev fill : Text → Option Block → List Statement
  fill name None = map (λ row. fixed (all_hold (world_of problem) row.when g name)) (variants_at problem name)
  fill name (Some b) = held name

  abbrev filled : Held
  filled name = fill name (block_of t name)

  fixed-all : (name : Text) (rows : List VariantRow)
      → map (eval v) (map (λ row. fixed (all_hold (world_of problem) row.when g name)) rows)
      ≡ map (λ row. all_hold (world_of problem) row.when g name) rows
  fixed-all name [] = refl
  fixed-all name (row ∷ rows) = λ i. fixed-is v (all_hold (world_of problem) row.when g name) i ∷ fixed-all name rows i

  module _ (says : (name : Text) (b : Block) → block_of t name ≡ Some b → map (eval v) (held name) ≡ holding name) where
    all-said : HoldSaid v problem filled g
    all-said name = all-said-cases (block_of t name) refl
      where
        all-said-cases : (o : Option Block) → block_of t name ≡ o → map (eval v) (fill name o) ≡ holding name
        all-said-cases None e = fixed-all name (variants_at problem name)
        all-said-cases (Some b) e = says name b e

    agree : (name : Text) (b : Block) → block_of t name ≡ Some b → held b.name ≡ filled b.name
    agree name b e =
        let here : block_of t b.name ≡ Some b = ap (block_of t) (found-named block_name t.blocks name b e) ∙ e in
        sym (ap (fill b.name) here)

    -- the sums are the cost vector
    pub sums-are : IsTable t → IsGraph g → Spells v t g → IsPermutation (map block_name t.blocks) order
        → AllSmall (tops_said (cost_terms problem t held order)) → sums_said v (cost_terms problem t held order) ≡ vector problem g
    sums-are table graph spells ordered small =
        sym (unstopped v (cost_terms problem t held order) small)
        ∙ ap (λ lists. map stopped (sums_said v lists)) (same-terms problem t order held filled agree)
        ∙ vector-is v problem t filled order g (record {
          is_table = table;
          is_graph = graph;
          spells = spells;
          holds = all-said;
          ordered = ordered;
        })
