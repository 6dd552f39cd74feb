-- The bits of costs behind the clauses of a closure.
use Rattle.std.proofs.Common.{◌≡◌, ◌∙◌, Bool, true, ℕ, List, map, Some}
use Rattle.std.specs.List.Sorted.{IsPermutation}
use Rattle.std.proofs.lemmas.List.{length-map}
use Rattle.clause_store.specs.declared.Lit.{Lit}
use Rattle.clause_store.specs.Clauses.{Clauses}
use Rattle.clause_formulas.specs.Statements.{eval}
use Rattle.clause_formulas.specs.declared.defined.Defined.{Defined}
use Rattle.graph_core.specs.Graphs.{Text, Content}
use Rattle.condition_rules.specs.Words.{is_one_text}
use Rattle.problem.specs.Nodes.{IsWellFormed}
use Rattle.problem.specs.Problems.{Problem}
use Rattle.graph_rules.proofs.Lists.{list_all-from}
use Rattle.graph_rules.specs.Costs.{vector}
use Rattle.literal_table.specs.Tables.{Table, IsTable, block_name, block_of}
use Rattle.literal_table.specs.declared.block.Block.{Block}
use Rattle.valid_models.proofs.OfGraphFormulas.AllVariants.{among-In}
use Rattle.valid_models.proofs.Found.{found-passes}
use Rattle.graph_encoding.specs.Formulas.{Formulas}
use Rattle.graph_encoding.specs.Best.{SaysAll, OrdersBits}
use Rattle.valid_models.specs.Tables.{table_for, size_for}
use Rattle.valid_models.specs.Targets.{conditions_of, targets_of}
use Rattle.valid_models.specs.Joined.{Places, holds_at}
use Rattle.valid_models.specs.Closures.{closure_formulas, closure_clauses}
use Rattle.cost_terms.specs.Weighed.{sums_said}
use Rattle.cost_terms.specs.Terms.{Held}
use Rattle.cost_terms.specs.Sums.{cost_terms}
use Rattle.ranked_costs.specs.CostBits.{AreCostBits}
use Rattle.term_builder.specs.Held.{held_in}
use Rattle.ranked_costs.specs.Given.{held_for}
use Rattle.ranked_costs.specs.Ranked.{closure_values}
use Rattle.ranked_costs.proofs.HeldLaws.{as-many, told, held-says}
use Rattle.ranked_costs.proofs.VectorSums.{holding, sums-are}

-- a name that is found is among the names
found-among : (t : Table) (name : Text) (b : Block) → block_of t name ≡ Some b → is_one_text (map block_name t.blocks) name ≡ true
found-among t name b found =
    found-passes (is_one_text (map block_name t.blocks)) t.blocks name b
    (list_all-from (is_one_text (map block_name t.blocks)) (map block_name t.blocks)
    (λ x there. among-In (map block_name t.blocks) x there)) found

module _ (problem : Problem) (names : List Text) (place : Places) (order : List Text) where
  abbrev t : Table
  t = table_for problem names

  abbrev f : Formulas
  f = closure_formulas problem names place

  abbrev values : List Defined
  values = closure_values problem names place

  abbrev held : Held
  held = held_in (held_for problem t values)

  abbrev Says : (ℕ → Bool) → Content → Type 0
  Says = SaysAll problem t (size_for problem names) f (targets_of problem t) (holds_at problem (conditions_of problem t))

  -- what is given for each name of the table says where its conditions hold
  given-says : (v : ℕ → Bool) (g : Content) → Says v g → (name : Text) (b : Block) → block_of t name ≡ Some b
      → map (eval v) (held name) ≡ holding problem t held order v g name
  given-says v g all name b found =
      held-says v problem g (map block_name t.blocks) values name
      (told v problem g values (conditions_of problem t) (as-many _ _ ∙ length-map (conditions_of problem t) _) all.conditions)
      (found-among t name b found)

  module _ (new : Clauses) (bits : List Lit) (tops : List ℕ)
      (costs : AreCostBits (closure_clauses problem names place) new bits tops problem t held order) where
    -- the sums that an assignment says
    abbrev pub sums : (ℕ → Bool) → List ℕ
    sums v = sums_said v (cost_terms problem t held order)

    -- the bits compare as the sums
    pub orders : OrdersBits (closure_clauses problem names place) new bits sums
    orders = record { defines = costs.totals.defines; order = costs.totals.order; equal = costs.totals.equal }

    -- which are the cost vector
    pub same : IsTable t → IsPermutation (map block_name t.blocks) order → (v : ℕ → Bool) (g : Content) → Says v g → IsWellFormed g
        → sums v ≡ vector problem g
    same table ordered v g all formed =
        sums-are problem t held order v g (given-says v g all) table formed.is_graph all.spells ordered costs.small
