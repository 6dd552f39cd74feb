-- What is asked of a table, from the laws of its parts.
use Rattle.std.proofs.Common.{◌≡◌, sym, ap, subst, ◌∙◌, Bool, true, ℕ, List, All}
use Rattle.std.specs.List.{list_all}
use Rattle.clause_circuits.specs.Growth.{Agree}
use Rattle.clause_formulas.specs.Statements.{any_statement, eval, SaidBelow}
use Rattle.variant_values.specs.Texts.{IsInByteOrder}
use Rattle.graph_core.specs.Graphs.{Content, IsGraph}
use Rattle.problem.specs.Nodes.{IsWellFormed}
use Rattle.problem.specs.Problems.{Problem}
use Rattle.problem.specs.declared.demand.Demand.{Demand}
use Rattle.graph_rules.specs.Valid.{valid_for}
use Rattle.literal_table.specs.Ranges.{IsTableBelow}
use Rattle.literal_table.specs.Tables.{Table, IsTable}
use Rattle.literal_table.specs.Spells.{Spells}
use Rattle.graph_decoding.specs.Structure.{structure}
use Rattle.graph_decoding.specs.Decoding.{decode, IsStructured}
use Rattle.graph_encoding.specs.Formulas.{Formulas, IsRightTable, IsSpelled}

-- a table of a closure, with its decoding, is right
pub right-table : (problem : Problem) (t : Table) (n : ℕ) (f : Formulas) → IsTable t → IsTableBelow n t → f.structure ≡ structure t
    → SaidBelow n (any_statement (structure t))
    → ((v : ℕ → Bool) → IsStructured v t → Spells v t (decode v t))
    → ((v : ℕ → Bool) (g : Content) → IsGraph g → Spells v t g → IsStructured v t)
    → ((v : ℕ → Bool) → IsStructured v t → IsGraph (decode v t))
    → ((v : ℕ → Bool) → All (λ node. All (λ w. IsInByteOrder w.1) node.variants) (decode v t).nodes)
    → ((v : ℕ → Bool) → All (λ edge. IsInByteOrder edge.virtuals) (decode v t).edges)
    → ((v : ℕ → Bool) (g : Content) → IsGraph g → Spells v t g → decode v t ≡ g)
    → ((v w : ℕ → Bool) (g : Content) → Agree n v w → Spells v t g → Spells w t g)
    → ((asked : List Demand) (g : Content) → IsWellFormed g → valid_for asked problem g ≡ true → IsSpelled t g)
    → IsRightTable problem t n f (λ v. decode v t)
right-table problem t n f table below same range spells spelled graph values virtuals decoded local possible = record {
  table = table;
  edges_below = λ k d lt. let e = below.edges k d lt in (e.0, e.1.0, e.1.1.0);
  nodes_below = λ k d lt. (below.blocks k d lt).present;
  structure_below = subst (λ fs. SaidBelow n (any_statement fs)) (sym same) range;
  local = local;
  reads = λ v h.
      let s : IsStructured v t = ap (list_all (eval v)) (sym same) ∙ h in
      (spells v s, record { is_graph = graph v s; values = values v; virtuals = virtuals v });
  fits = λ v g s w. ap (list_all (eval v)) same ∙ spelled v g w.is_graph s;
  decoded = λ v g s w. decoded v g w.is_graph s;
  spelled = possible;
}
