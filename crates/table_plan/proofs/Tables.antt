-- The table of a plan spells each graph that the plan offers.
use Rattle.std.proofs.Common.{◌≡◌, refl, sym, ap, subst, ◌∙◌, ℕ, ◌+◌, Bool, true, false, List, [], ◌∷◌, ◌++◌, map, length, Option, Some, None, Contains, All, ◌⊎◌, ⊎_elim, arith}
use Rattle.std.specs.Option.{option_to_list}
use Rattle.std.specs.Ordering.{eq_by_cmp, is_eq}
use Rattle.std.specs.declared.cmp.Ordering.TheVariants.{Less, Equal}
use Rattle.std.specs.Str.{bytes_eq}
use Rattle.std.specs.Cmp.{tied_itself}
use Rattle.std.specs.Cmp.Lexicographic.{bytes_decides, nat_list_cmp_total}
use Rattle.std.specs.List.Sorted.{IsStrictlySortedBy}
use Rattle.std.proofs.lemmas.Bool.{cases_Bool, false≢true}
use Rattle.std.proofs.lemmas.List.{length-map, length-append}
use Rattle.std.proofs.lemmas.List.Elements.{All-contains}
use Rattle.reachability.proofs.CountLaws.{has_first, has_later, first_or_later, has_image}
use Rattle.variant_values.specs.Texts.{byte_cmp, IsInByteOrder}
use Rattle.keyed_lists.specs.Keyed.{IsInOrder, find_key}
use Rattle.keyed_lists.proofs.RiseLaws.{all_from, rises_above, rises_none, rises_rest}
use Rattle.keyed_lists.proofs.TextLaws.{texts_decide}
use Rattle.graph_core.specs.Graphs.{Text, Content, pair_cmp, node_of, edge_of, provider_of}
use Rattle.graph_core.proofs.PairLaws.{pair_exact, pair_total}
use Rattle.graph_core.specs.declared.node.Node.{Node}
use Rattle.graph_core.specs.declared.node.Edge.{Edge}
use Rattle.condition_rules.specs.Words.{is_one_text, is_some_and}
use Rattle.problem.specs.Nodes.{has_kind}
use Rattle.literal_table.specs.Choices.{chosen}
use Rattle.literal_table.specs.Tables.{block_name, ends_of_edge, provider_virtual, virtual_choices, provider_packages, value_of}
use Rattle.literal_table.specs.Spells.{SpellsAt, SpellsEdge, Spells, virtuals_in}
use Rattle.literal_table.specs.declared.block.EdgeLits.{EdgeLits}
use Rattle.literal_table.proofs.Spelling.{named-so}
use Rattle.table_plan.specs.Gathering.{EachOnce}
use Rattle.table_plan.specs.Offers.{Offers, OffersEdge, IsOffered, IsPossible, IsPlan, ends_of_possible}
use Rattle.table_plan.specs.declared.plan.Possible.{Possible}
use Rattle.table_plan.specs.declared.plan.PossibleEdge.{PossibleEdge}
use Rattle.table_plan.specs.declared.plan.Plan.{Plan}
use Rattle.table_plan.proofs.GatherLaws.{only_one}
use Rattle.table_plan.specs.Numbers.{numbered, value_count, block_width, widths, block_from, blocks_from, edge_from, edge_lits_from, edge_width, edge_widths, providers_from, table_from, variables_of}
use Rattle.table_plan.specs.Spellings.{node_bits, nodes_bits, kind_bits, edge_bits, edges_bits, providers_bits, graph_bits, with_bits, spelling, AgreeOutside}
use Rattle.table_plan.proofs.ReadLaws.{Reads, reads_parts, reads_bits, bits_before, bits_after}
use Rattle.table_plan.proofs.Choices.{numbered_reads, nothing_kept, smaller_set}
use Rattle.table_plan.proofs.Blocks.{length-node_bits, block_named, node_read, numbered_keys}
use Rattle.table_plan.proofs.EdgeLaws.{ties}

-- ---- lengths

length-nodes_bits : (graph : Content) (ps : List Possible) → length (nodes_bits graph ps) ≡ widths ps
length-nodes_bits graph [] = refl
length-nodes_bits graph (p ∷ ps) = omega (
  arith,
  length-append (node_bits p (node_of graph p.name)) (nodes_bits graph ps),
  length-node_bits p (node_of graph p.name),
  length-nodes_bits graph ps,
)

length-kind_bits : (o : Option Edge) → length (kind_bits o) ≡ 3
length-kind_bits None = refl
length-kind_bits (Some e) = refl

length-edge_bits : (e : PossibleEdge) (o : Option Edge) → length (edge_bits e o) ≡ edge_width e
length-edge_bits e o = omega (
  arith,
  length-append (kind_bits o) (map (is_one_text (virtuals_in o)) e.virtuals),
  length-kind_bits o,
  length-map e.virtuals (is_one_text (virtuals_in o)),
)

length-edges_bits : (graph : Content) (es : List PossibleEdge) → length (edges_bits graph es) ≡ edge_widths es
length-edges_bits graph [] = refl
length-edges_bits graph (e ∷ es) = omega (
  arith,
  length-append (edge_bits e (edge_of graph e.parent e.child)) (edges_bits graph es),
  length-edge_bits e (edge_of graph e.parent e.child),
  length-edges_bits graph es,
)

length-providers_bits : (graph : Content) (ws : List (Text × List Text)) → length (providers_bits graph ws) ≡ value_count ws
length-providers_bits graph [] = refl
length-providers_bits graph (w ∷ ws) = omega (
  arith,
  length-append (map (λ one. is_some_and (provider_of graph w.0) (λ p. bytes_eq p one)) w.1) (providers_bits graph ws),
  length-map w.1 (λ one. is_some_and (provider_of graph w.0) (λ p. bytes_eq p one)),
  length-providers_bits graph ws,
)

length-graph_bits : (plan : Plan) (graph : Content) → length (graph_bits plan graph) ≡ variables_of plan
unfolding graph_bits variables_of
length-graph_bits plan graph = omega (
  arith,
  length-append (nodes_bits graph plan.nodes) (edges_bits graph plan.edges ++ providers_bits graph plan.providers),
  length-append (edges_bits graph plan.edges) (providers_bits graph plan.providers),
  length-nodes_bits graph plan.nodes,
  length-edges_bits graph plan.edges,
  length-providers_bits graph plan.providers,
)

-- ---- small facts

apart : (a b : Text) → byte_cmp a b ≡ Less → a ≡ b → ⊥
apart a b less e = let both : Less ≡ Equal = sym less ∙ ap (byte_cmp a) (sym e) ∙ tied_itself nat_list_cmp_total a in cc

texts_once : (xs : List Text) → IsInByteOrder xs → EachOnce xs
texts_once [] rising = tt
texts_once (x ∷ xs) rising =
    (λ there. apart x x (rises_above byte_cmp x xs rising x there) refl, texts_once xs (rises_rest byte_cmp x xs rising))

nothing_there : {X : Type 0} (o : Option X) → ((x : X) → o ≡ Some x → ⊥) → o ≡ None
nothing_there None f = refl
nothing_there (Some x) f = absurd (f x refl)

-- ---- nodes, edges and providers

-- what is read of the literals of an edge
record EdgeRead (v : ℕ → Bool) (c : Option EdgeLits) (o : Option Edge) : Type 0 where
  pub kinds : SpellsEdge v c o
  pub virtuals : chosen v (virtual_choices c) ≡ virtuals_in o
  pub order : IsInOrder byte_cmp value_of (virtual_choices c)

module _ (v : ℕ → Bool) (graph : Content) where
  nodes_read : (n : ℕ) (ps : List Possible) → IsInOrder byte_cmp (λ p. p.name) ps → All IsPossible ps → Reads v n (nodes_bits graph ps)
      → (name : Text) → ((node : Node) → node_of graph name ≡ Some node → (p : Possible) × Contains ps p × (p.name ≡ name) × Offers p node)
      → SpellsAt v (find_key byte_cmp block_name (blocks_from n ps) name) (node_of graph name)
  nodes_read n [] rising is r name f = nothing_there (node_of graph name) (λ node e. let at = f node e in omega (arith, at.1.1))
  nodes_read n (p ∷ ps) rising is r name f =
      let parts = reads_parts v n (node_bits p (node_of graph p.name)) (nodes_bits graph ps) r in
      let later = subst (λ m. Reads v (n + m) (nodes_bits graph ps)) (length-node_bits p (node_of graph p.name)) parts.1 in
      let all = λ (q : Possible) (there : Contains ps q). All-contains IsPossible (p ∷ ps) q is (has_later p ps q there) in
      let first : IsPossible p = All-contains IsPossible (p ∷ ps) p is (has_first p ps) in
      let rest = nodes_read (n + block_width p) ps (rises_rest byte_cmp p.name (map (λ q. q.name) ps) rising)
      (all_from IsPossible ps all) later name in
      ⊎_elim
      (λ hit.
      let key : p.name ≡ name = sym (block_named n p) ∙ (texts_decide (block_from n p).name name).0 hit in
      rw hit (node_read v n p (node_of graph name) first
      (λ node e. let at = f node e in ⊎_elim (λ same. subst (λ q. Offers q node) (sym same) at.3)
      (λ in_ps. absurd (apart p.name at.0.name (rises_above byte_cmp p.name (map (λ q. q.name) ps) rising at.0.name
      (has_image (λ (q : Possible). q.name) ps at.0 in_ps)) (key ∙ sym at.2)))
      (first_or_later p ps at.0 at.1))
      (subst (λ m. Reads v n (node_bits p (node_of graph m))) key parts.0)))
      (λ miss. rw miss (rest (λ node e. let at = f node e in (
        at.0,
        ⊎_elim (λ same. absurd (false≢true (sym miss ∙ (texts_decide (block_from n p).name name).1
            (block_named n p ∙ ap (λ (q : Possible). q.name) same ∙ at.2)))) (λ in_ps. in_ps) (first_or_later p ps at.0 at.1),
        at.2,
        at.3,
      ))))
      (cases_Bool (eq_by_cmp byte_cmp (block_from n p).name name))

  kinds_read : (n : ℕ) (e : PossibleEdge) (o : Option Edge) → ((edge : Edge) → o ≡ Some edge → has_kind edge.kinds ≡ true)
      → Reads v n (kind_bits o) → SpellsEdge v (Some (edge_from n e)) o
  kinds_read n e None f r =
      let two : v (n + 2) ≡ false = subst (λ m. v m ≡ false) (let s : n + 1 + 1 ≡ n + 2 = omega arith in s) r.1.1.0 in
      rw (r.0, r.1.0, two) refl
  kinds_read n e (Some edge) f r =
      let two : v (n + 2) ≡ edge.kinds.run = subst (λ m. v m ≡ edge.kinds.run) (let s : n + 1 + 1 ≡ n + 2 = omega arith in s) r.1.1.0 in
      rw (r.0, r.1.0, two, f edge refl) refl

  virtuals_read : (n : ℕ) (e : PossibleEdge) (o : Option Edge) → IsInByteOrder e.virtuals
      → ((edge : Edge) → o ≡ Some edge → OffersEdge e edge)
      → Reads v n (map (is_one_text (virtuals_in o)) e.virtuals) → chosen v (numbered n e.virtuals) ≡ virtuals_in o
  virtuals_read n e None rising f r = numbered_reads v (is_one_text []) n e.virtuals r ∙ nothing_kept e.virtuals
  virtuals_read n e (Some edge) rising f r =
      let has = f edge refl in
      numbered_reads v (is_one_text edge.virtuals) n e.virtuals r ∙ smaller_set edge.virtuals e.virtuals has.order rising has.each

  edge_read : (n : ℕ) (e : PossibleEdge) (o : Option Edge) → IsInByteOrder e.virtuals
      → ((edge : Edge) → o ≡ Some edge → OffersEdge e edge)
      → Reads v n (edge_bits e o) → EdgeRead v (Some (edge_from n e)) o
  edge_read n e o rising f r =
      let parts = reads_parts v n (kind_bits o) (map (is_one_text (virtuals_in o)) e.virtuals) r in
      let names = subst (λ m. Reads v (n + m) (map (is_one_text (virtuals_in o)) e.virtuals)) (length-kind_bits o) parts.1 in
      record {
        kinds = kinds_read n e o (λ edge is. (f edge is).kind) parts.0;
        virtuals = virtuals_read (n + 3) e o rising f names;
        order = subst IsInByteOrder (sym (numbered_keys (n + 3) e.virtuals)) rising;
      }

  edges_read : (n : ℕ) (es : List PossibleEdge) → IsInOrder pair_cmp ends_of_possible es → All (λ e. IsInByteOrder e.virtuals) es
      → Reads v n (edges_bits graph es) → (parent child : Text)
      → ((edge : Edge) → edge_of graph parent child ≡ Some edge → (e : PossibleEdge) × Contains es e
      × (ends_of_possible e ≡ (parent, child)) × OffersEdge e edge)
      → EdgeRead v (find_key pair_cmp ends_of_edge (edge_lits_from n es) (parent, child)) (edge_of graph parent child)
  edges_read n [] rising sets r parent child f =
      let none = nothing_there (edge_of graph parent child) (λ edge is. let at = f edge is in omega (arith, at.1.1)) in
      record { kinds = none; virtuals = sym (ap virtuals_in none); order = rises_none byte_cmp }
  edges_read n (d ∷ ds) rising sets r parent child f =
      let parts = reads_parts v n (edge_bits d (edge_of graph d.parent d.child)) (edges_bits graph ds) r in
      let later = subst (λ m. Reads v (n + m) (edges_bits graph ds)) (length-edge_bits d (edge_of graph d.parent d.child)) parts.1 in
      let first : IsInByteOrder d.virtuals = All-contains (λ (e : PossibleEdge). IsInByteOrder e.virtuals) (d ∷ ds) d sets
      (has_first d ds) in
      let rest = edges_read (n + edge_width d) ds (rises_rest pair_cmp (ends_of_possible d) (map ends_of_possible ds) rising)
      (all_from (λ (e : PossibleEdge). IsInByteOrder e.virtuals) ds
      (λ e there. All-contains (λ (x : PossibleEdge). IsInByteOrder x.virtuals) (d ∷ ds) e sets (has_later d ds e there))) later
      parent child in
      ⊎_elim
      (λ hit.
      let same : ends_of_possible d ≡ (parent, child) = pair_exact (ends_of_possible d) (parent, child)
      (ties (pair_cmp (ends_of_possible d) (parent, child)) hit) in
      rw hit (edge_read n d (edge_of graph parent child) first
      (λ edge is. let at = f edge is in ⊎_elim (λ one. subst (λ (e : PossibleEdge). OffersEdge e edge) (sym one) at.3)
      (λ in_ds. absurd (above (ends_of_possible d) at.0 ds rising in_ds (same ∙ sym at.2)))
      (first_or_later d ds at.0 at.1))
      (subst (λ (p : Text × Text). Reads v n (edge_bits d (edge_of graph p.0 p.1))) same parts.0)))
      (λ miss. rw miss (rest (λ edge is. let at = f edge is in (
        at.0,
        ⊎_elim (λ one. absurd (false≢true (sym miss ∙ ap is_eq (ap (λ (e : PossibleEdge). pair_cmp (ends_of_possible e) (parent, child)) one
            ∙ ap (λ (p : Text × Text). pair_cmp p (parent, child)) at.2 ∙ tied_itself pair_total (parent, child))))) (λ in_ds. in_ds)
            (first_or_later d ds at.0 at.1),
        at.2,
        at.3,
      ))))
      (cases_Bool (eq_by_cmp pair_cmp (ends_of_possible d) (parent, child)))
    where
      -- the ends of a later edge are others
      above : (p : Text × Text) (e : PossibleEdge) (es : List PossibleEdge) → IsStrictlySortedBy pair_cmp (p ∷ map ends_of_possible es)
          → Contains es e → p ≡ ends_of_possible e → ⊥
      above p e es order in_es same =
          let less : pair_cmp p (ends_of_possible e) ≡ Less = rises_above pair_cmp p (map ends_of_possible es) order (ends_of_possible e)
          (has_image ends_of_possible es e in_es) in
          let both : Less ≡ Equal = sym less ∙ ap (pair_cmp p) (sym same) ∙ tied_itself pair_total p in cc

  packages_read : (n : ℕ) (packages : List Text) (o : Option Text) → IsInByteOrder packages
      → ((p : Text) → o ≡ Some p → Contains packages p)
      → Reads v n (map (λ one. is_some_and o (λ p. bytes_eq p one)) packages) → chosen v (numbered n packages) ≡ option_to_list o
  packages_read n packages None rising f r = numbered_reads v (λ one. false) n packages r ∙ nothing_kept packages
  packages_read n packages (Some p) rising f r =
      numbered_reads v (bytes_eq p) n packages r ∙ only_one bytes_eq bytes_decides packages p (texts_once packages rising) (f p refl)

  providers_read : (n : ℕ) (ws : List (Text × List Text)) → IsInOrder byte_cmp (λ w. w.0) ws → All (λ w. IsInByteOrder w.1) ws
      → Reads v n (providers_bits graph ws) → (name : Text)
      → ((p : Text) → provider_of graph name ≡ Some p → (packages : List Text) × Contains ws (name, packages) × Contains packages p)
      → chosen v (provider_packages (find_key byte_cmp provider_virtual (providers_from n ws) name))
      ≡ option_to_list (provider_of graph name)
  providers_read n [] rising is r name f =
      sym (ap option_to_list (nothing_there (provider_of graph name) (λ p e. let at = f p e in omega (arith, at.1.1))))
  providers_read n (w ∷ ws) rising is r name f =
      let bits = map (λ one. is_some_and (provider_of graph w.0) (λ p. bytes_eq p one)) w.1 in
      let parts = reads_parts v n bits (providers_bits graph ws) r in
      let later = subst (λ m. Reads v (n + m) (providers_bits graph ws))
      (length-map w.1 (λ one. is_some_and (provider_of graph w.0) (λ p. bytes_eq p one))) parts.1 in
      let first : IsInByteOrder w.1 = All-contains (λ (u : Text × List Text). IsInByteOrder u.1) (w ∷ ws) w is (has_first w ws) in
      let rest = providers_read (n + length w.1) ws (rises_rest byte_cmp w.0 (map (λ u. u.0) ws) rising)
      (all_from (λ (u : Text × List Text). IsInByteOrder u.1) ws
      (λ u there. All-contains (λ (x : Text × List Text). IsInByteOrder x.1) (w ∷ ws) u is (has_later w ws u there))) later name in
      ⊎_elim
      (λ hit.
      let key : w.0 ≡ name = (texts_decide w.0 name).0 hit in
      rw hit (packages_read n w.1 (provider_of graph name) first
      (λ p e. let at = f p e in ⊎_elim (λ same. subst (λ (u : Text × List Text). Contains u.1 p) (sym same) at.2)
      (λ in_ws. absurd (apart w.0 name (rises_above byte_cmp w.0 (map (λ u. u.0) ws) rising name
      (has_image (λ (u : Text × List Text). u.0) ws (name, at.0) in_ws)) key))
      (first_or_later w ws (name, at.0) at.1))
      (subst (λ m. Reads v n (map (λ one. is_some_and (provider_of graph m) (λ p. bytes_eq p one)) w.1)) key parts.0)))
      (λ miss. rw miss (rest (λ p e. let at = f p e in (
        at.0,
        ⊎_elim (λ same. absurd (false≢true (sym miss ∙ (texts_decide w.0 name).1 (ap (λ (u : Text × List Text). u.0) same))))
            (λ in_ws. in_ws)
            (first_or_later w ws (name, at.0) at.1),
        at.2,
      ))))
      (cases_Bool (eq_by_cmp byte_cmp w.0 name))

-- ---- all of it

module _ (n : ℕ) (plan : Plan) (graph : Content) (is : IsPlan plan) (has : IsOffered plan graph) where
  table_read : (v : ℕ → Bool) → Reads v n (graph_bits plan graph) → Spells v (table_from n plan) graph
  unfolding graph_bits table_from
  table_read v r =
      let nodes = reads_parts v n (nodes_bits graph plan.nodes) (edges_bits graph plan.edges ++ providers_bits graph plan.providers) r in
      let after = subst (λ m. Reads v (n + m) (edges_bits graph plan.edges ++ providers_bits graph plan.providers))
      (length-nodes_bits graph plan.nodes) nodes.1 in
      let edges = reads_parts v (n + widths plan.nodes) (edges_bits graph plan.edges) (providers_bits graph plan.providers) after in
      let last = subst (λ m. Reads v (n + widths plan.nodes + m) (providers_bits graph plan.providers))
      (length-edges_bits graph plan.edges) edges.1 in
      let edge_at = edges_read v graph (n + widths plan.nodes) plan.edges is.edges is.virtuals edges.0 in
      record {
        nodes = λ name. nodes_read v graph n plan.nodes is.nodes is.possible nodes.0 name (λ node e.
            let at = has.nodes name node e in
            (at.0, at.1, sym at.2.name ∙ named-so graph name node e, at.2));
        edges = λ parent child. (edge_at parent child (has.edges parent child)).kinds;
        virtuals = λ parent child. (edge_at parent child (has.edges parent child)).virtuals;
        virtual_order = λ parent child. (edge_at parent child (has.edges parent child)).order;
        providers = λ name. providers_read v graph (n + widths plan.nodes + edge_widths plan.edges) plan.providers is.providers
            is.packages last name
            (has.providers name);
      }

  -- what a plan offers is spelled
  pub spelled : (v : ℕ → Bool) → Spells (spelling n plan graph v) (table_from n plan) graph
  unfolding spelling
  spelled v = table_read (with_bits n (graph_bits plan graph) v) (reads_bits n (graph_bits plan graph) v)

-- the other variables stay
pub others_stay : (n : ℕ) (plan : Plan) (graph : Content) (v : ℕ → Bool) → AgreeOutside n (variables_of plan) (spelling n plan graph v) v
unfolding spelling
others_stay n plan graph v k = (
  bits_before n (graph_bits plan graph) v k,
  λ le. bits_after n (graph_bits plan graph) v k (omega (arith, le, length-graph_bits plan graph)),
)
