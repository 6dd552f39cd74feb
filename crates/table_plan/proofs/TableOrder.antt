-- The table of a plan is in order.
use Rattle.std.proofs.Common.{◌≡◌, refl, sym, subst, ℕ, ◌+◌, List, [], ◌∷◌, map, length, Contains, ◌⊎◌, ⊎_elim, arith}
use Rattle.std.specs.List.Sorted.{IsStrictlySortedBy}
use Rattle.std.proofs.lemmas.List.Elements.{All-contains}
use Rattle.reachability.proofs.CountLaws.{has_first, has_later, first_or_later}
use Rattle.variant_values.specs.Texts.{byte_cmp, IsInByteOrder}
use Rattle.keyed_lists.specs.Keyed.{IsInOrder}
use Rattle.keyed_lists.proofs.RiseLaws.{all_from}
use Rattle.graph_core.specs.Graphs.{pair_cmp}
use Rattle.literal_table.specs.Tables.{IsTable, AreVariantsInOrder, block_name, ends_of_edge, provider_virtual, value_of}
use Rattle.literal_table.specs.declared.block.Block.{Block}
use Rattle.literal_table.specs.declared.block.EdgeLits.{EdgeLits}
use Rattle.table_plan.specs.Offers.{IsPossible, IsPlan, ends_of_possible}
use Rattle.table_plan.specs.declared.plan.Possible.{Possible}
use Rattle.table_plan.specs.declared.plan.PossibleEdge.{PossibleEdge}
use Rattle.table_plan.specs.declared.plan.Plan.{Plan}
use Rattle.table_plan.specs.Numbers.{block_width, block_from, blocks_from, numbered_run, edge_from, edge_lits_from, edge_width, provider_from, table_from}
use Rattle.table_plan.proofs.Blocks.{block_ordered, block_named, numbered_keys}

made_keys : {X Y K : Type 0} (make : ℕ → X → Y) (width : X → ℕ) (key : Y → K) (from : X → K) → ((m : ℕ) (x : X) → key (make m x) ≡ from x)
    → (n : ℕ) (xs : List X) → map key (numbered_run make width n xs) ≡ map from xs
made_keys make width key from same n [] = refl
made_keys make width key from same n (x ∷ xs) =
    let first = same n x in
    let rest = made_keys make width key from same (n + width x) xs in
    λ i. first i ∷ rest i

blocks_ordered : (n : ℕ) (ps : List Possible) → ((p : Possible) → Contains ps p → IsPossible p) → (b : Block)
    → Contains (blocks_from n ps) b
    → AreVariantsInOrder b
blocks_ordered n [] is b there = absurd (omega (arith, there.1))
blocks_ordered n (p ∷ ps) is b there = ⊎_elim
    (λ same. subst AreVariantsInOrder same (block_ordered n p (is p (has_first p ps))))
    (λ later. blocks_ordered (n + block_width p) ps (λ q in_ps. is q (has_later p ps q in_ps)) b later)
    (first_or_later (block_from n p) (blocks_from (n + block_width p) ps) b there)

names_ordered : (n : ℕ) (es : List PossibleEdge) → ((e : PossibleEdge) → Contains es e → IsInByteOrder e.virtuals) → (l : EdgeLits)
    → Contains (edge_lits_from n es) l → IsInOrder byte_cmp value_of l.virtuals
names_ordered n [] is l there = absurd (omega (arith, there.1))
names_ordered n (e ∷ es) is l there = ⊎_elim
    (λ same. subst (λ (x : EdgeLits). IsInOrder byte_cmp value_of x.virtuals) same
    (subst IsInByteOrder (sym (numbered_keys (n + 3) e.virtuals)) (is e (has_first e es))))
    (λ later. names_ordered (n + edge_width e) es (λ d in_es. is d (has_later e es d in_es)) l later)
    (first_or_later (edge_from n e) (edge_lits_from (n + edge_width e) es) l there)

-- the table of a plan is in order
pub table_right : (n : ℕ) (plan : Plan) → IsPlan plan → IsTable (table_from n plan)
unfolding table_from
table_right n plan is = record {
  blocks = subst IsInByteOrder (sym (made_keys block_from block_width block_name (λ p. p.name) block_named n plan.nodes)) is.nodes;
  edges = subst (IsStrictlySortedBy pair_cmp)
      (sym (made_keys edge_from edge_width ends_of_edge ends_of_possible (λ m e. refl) _ plan.edges)) is.edges;
  providers = subst IsInByteOrder
      (sym (made_keys provider_from (λ w. length w.1) provider_virtual (λ w. w.0) (λ m w. refl) _ plan.providers)) is.providers;
  variants = all_from AreVariantsInOrder (blocks_from n plan.nodes)
      (blocks_ordered n plan.nodes (λ p there. All-contains IsPossible plan.nodes p is.possible there));
  virtuals = all_from (λ (l : EdgeLits). IsInOrder byte_cmp value_of l.virtuals) (edge_lits_from _ plan.edges)
      (names_ordered _ plan.edges (λ e there. All-contains (λ (x : PossibleEdge). IsInByteOrder x.virtuals) plan.edges e
      is.virtuals there));
}
