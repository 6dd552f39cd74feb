-- The literals of a table are over its variables.
use Rattle.std.proofs.Common.{subst, ℕ, ◌+◌, ◌<◌, ◌≤◌, List, [], ◌∷◌, ◌++◌, length, Contains, ⊎_elim, arith}
use Rattle.std.specs.List.{flat_map}
use Rattle.clause_store.specs.declared.Lit.{Lit}
use Rattle.clause_store.specs.Lits.{AllBelow}
use Rattle.reachability.proofs.CountLaws.{first_or_later}
use Rattle.keyed_lists.proofs.RiseLaws.{all_from}
use Rattle.graph_core.specs.Graphs.{Text}
use Rattle.literal_table.specs.Choices.{choice_lits}
use Rattle.literal_table.specs.declared.block.Block.{Block}
use Rattle.literal_table.specs.declared.block.EdgeLits.{EdgeLits}
use Rattle.literal_table.specs.declared.block.ProviderLits.{ProviderLits}
use Rattle.table_plan.specs.declared.plan.Possible.{Possible}
use Rattle.table_plan.specs.declared.plan.PossibleEdge.{PossibleEdge}
use Rattle.table_plan.specs.declared.plan.Plan.{Plan}
use Rattle.table_plan.specs.Numbers.{positive_lit, numbered, attribute, width_of, variants_from, value_count, block_width, widths, block_from, blocks_from, edge_lits_from, edge_from, edge_width, edge_widths, provider_from, providers_from, table_from, variables_of}
use Rattle.literal_table.specs.Ranges.{AreBelow, IsBlockBelow, IsTableBelow}

append_below : (m : ℕ) (ls ks : List Lit) → AllBelow m ls → AllBelow m ks → AllBelow m (ls ++ ks)
append_below m [] ks a b = b
append_below m (l ∷ ls) ks a b = (a.0, append_below m ls ks a.1 b)

numbered_below : {T : Type 0} (m n : ℕ) (xs : List T) → n + length xs ≤ m → AreBelow m (numbered n xs)
numbered_below m n [] le = tt
numbered_below m n (x ∷ xs) le = (omega (arith, le), numbered_below m (n + 1) xs (omega (arith, le)))

attribute_below : {T : Type 0} (m p n : ℕ) (xs : List T) → p < m → n + width_of xs ≤ m → AreBelow m (attribute (positive_lit p) n xs)
attribute_below m p n [] lt le = tt
attribute_below m p n (x ∷ []) lt le = (lt, tt)
attribute_below m p n (x ∷ y ∷ more) lt le = numbered_below m n (x ∷ y ∷ more) le

variants_below : (m n : ℕ) (vs : List (Text × List Text)) → n + value_count vs ≤ m
    → AllBelow m (flat_map (λ w. choice_lits w.1) (variants_from n vs))
variants_below m n [] le = tt
variants_below m n (v ∷ vs) le = append_below m (choice_lits (numbered n v.1))
    (flat_map (λ w. choice_lits w.1) (variants_from (n + length v.1) vs))
    (numbered_below m n v.1 (omega (arith, le))) (variants_below m (n + length v.1) vs (omega (arith, le)))

block_below : (m n : ℕ) (p : Possible) → n + block_width p ≤ m → IsBlockBelow m (block_from n p)
unfolding block_from
block_below m n p le = record {
  present = omega (arith, le);
  origins = attribute_below m n _ p.origins (omega (arith, le)) (omega (arith, le));
  versions = attribute_below m n _ p.versions (omega (arith, le)) (omega (arith, le));
  values = variants_below m _ p.variants (omega (arith, le));
  compilers = attribute_below m n _ p.compilers (omega (arith, le)) (omega (arith, le));
  os = attribute_below m n _ p.os (omega (arith, le)) (omega (arith, le));
  targets = attribute_below m n _ p.targets (omega (arith, le)) (omega (arith, le));
  prefixes = attribute_below m n _ p.prefixes (omega (arith, le)) (omega (arith, le));
}

blocks_below : (m n : ℕ) (ps : List Possible) → n + widths ps ≤ m → (b : Block) → Contains (blocks_from n ps) b → IsBlockBelow m b
blocks_below m n [] le b there = absurd (omega (arith, there.1))
blocks_below m n (p ∷ ps) le b there = ⊎_elim
    (λ same. subst (IsBlockBelow m) same (block_below m n p (omega (arith, le))))
    (λ later. blocks_below m (n + block_width p) ps (omega (arith, le)) b later)
    (first_or_later (block_from n p) (blocks_from (n + block_width p) ps) b there)

abbrev EdgeBelow : ℕ → EdgeLits → Type 0
EdgeBelow m e = AllBelow m (e.build ∷ e.link ∷ e.run ∷ [])

edges_below : (m n : ℕ) (es : List PossibleEdge) → n + edge_widths es ≤ m → (e : EdgeLits) → Contains (edge_lits_from n es) e
    → EdgeBelow m e × AreBelow m e.virtuals
edges_below m n [] le e there = absurd (omega (arith, there.1))
edges_below m n (d ∷ ds) le e there = ⊎_elim
    (λ same. subst (λ (x : EdgeLits). EdgeBelow m x × AreBelow m x.virtuals) same
    ((omega (arith, le), (omega (arith, le), (omega (arith, le), tt))), numbered_below m (n + 3) d.virtuals (omega (arith, le))))
    (λ later. edges_below m (n + edge_width d) ds (omega (arith, le)) e later)
    (first_or_later (edge_from n d) (edge_lits_from (n + edge_width d) ds) e there)

providers_below : (m n : ℕ) (ws : List (Text × List Text)) → n + value_count ws ≤ m → (p : ProviderLits) → Contains (providers_from n ws) p
    → AreBelow m p.packages
providers_below m n [] le p there = absurd (omega (arith, there.1))
providers_below m n (w ∷ ws) le p there = ⊎_elim
    (λ same. subst (λ (q : ProviderLits). AreBelow m q.packages) same (numbered_below m n w.1 (omega (arith, le))))
    (λ later. providers_below m (n + length w.1) ws (omega (arith, le)) p later)
    (first_or_later (provider_from n w) (providers_from (n + length w.1) ws) p there)

-- the literals of a table are over its variables
pub table_below : (n : ℕ) (plan : Plan) → IsTableBelow (n + variables_of plan) (table_from n plan)
unfolding table_from variables_of
table_below n plan =
    let m = n + (widths plan.nodes + edge_widths plan.edges + value_count plan.providers) in record {
      blocks = all_from (IsBlockBelow m) (blocks_from n plan.nodes) (blocks_below m n plan.nodes (omega arith));
      edges = all_from (EdgeBelow m) (edge_lits_from (n + widths plan.nodes) plan.edges)
          (λ e there. (edges_below m (n + widths plan.nodes) plan.edges (omega arith) e there).0);
      virtuals = all_from (λ (e : EdgeLits). AreBelow m e.virtuals) (edge_lits_from (n + widths plan.nodes) plan.edges)
          (λ e there. (edges_below m (n + widths plan.nodes) plan.edges (omega arith) e there).1);
      providers = all_from (λ (p : ProviderLits). AreBelow m p.packages)
          (providers_from (n + widths plan.nodes + edge_widths plan.edges) plan.providers)
          (providers_below m (n + widths plan.nodes + edge_widths plan.edges) plan.providers (omega arith));
    }
