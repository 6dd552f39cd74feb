-- The formula of each word is over the variables of the table and of paths.
use Rattle.std.proofs.Common.{◌≡◌, refl, Bool, true, false, ℕ, ◌<◌, List, [], ◌∷◌, ◌++◌, map, Option, Some, None}
use Rattle.std.specs.Prelude.{if◌then◌else◌}
use Rattle.std.specs.Str.{bytes_eq}
use Rattle.std.proofs.lemmas.List.Elements.{All-contains}
use Rattle.std.specs.Cmp.Lexicographic.{nat_list_cmp_total}
use Rattle.std.specs.Ordering.{eq_by_cmp}
use Rattle.clause_store.specs.declared.Lit.{Lit}
use Rattle.clause_store.specs.Lits.{var_of, negation, AllBelow}
use Rattle.clause_formulas.specs.Statements.{atom, any_statement, all_statements, SaidBelow}
use Rattle.clause_formulas.proofs.FewLaws.{one_among-below}
use Rattle.clause_formulas.proofs.Words.{any_of-below, all_of-below}
use Rattle.clause_formulas.proofs.DraftLaws.{SaidBelow-le}
use Rattle.variant_values.specs.Texts.{byte_cmp}
use Rattle.variant_values.proofs.Texts.{ties_are_equal}
use Rattle.keyed_lists.specs.Keyed.{find_key}
use Rattle.keyed_lists.proofs.LookupLaws.{find_sound}
use Rattle.graph_core.specs.Graphs.{Text}
use Rattle.graph_core.specs.declared.node.Kinds.{Kinds}
use Rattle.problem.specs.Nodes.{has_kind}
use Rattle.graph_core.proofs.PairLaws.{pair_total, pair_exact}
use Rattle.literal_table.specs.Choices.{Choices, any_choice, choice_lits, passing}
use Rattle.literal_table.specs.Tables.{Table, block_name, ends_of_edge, provider_virtual, variant_of, block_of, edge_lits_of, packages_of, provider_packages, variant_choices, variant_choices_in, virtual_choices, edge_virtuals}
use Rattle.literal_table.specs.declared.block.Block.{Block}
use Rattle.literal_table.specs.declared.block.EdgeLits.{EdgeLits}
use Rattle.literal_table.specs.declared.block.ProviderLits.{ProviderLits}
use Rattle.graph_decoding.specs.Structure.{value_lits, kind_lits}
use Rattle.graph_decoding.proofs.LocalLaws.{below-parts}
use Rattle.literal_table.specs.Ranges.{AreBelow, IsBlockBelow, IsTableBelow}
use Rattle.graph_formulas.specs.Facts as facts
use Rattle.graph_formulas.specs.Facts.{Fact, Variants, just_parts, some_parts, variant_parts, fact_said, said_in, kind_parts, edge_said, node_has, provides_as, has_edge, has_path, has_virtual, has_virtuals}
use Rattle.valid_models.specs.Joined.{WordsBelow}

-- ---- choices

choice-below : {T : Type 0} (m : ℕ) (test : T → Bool) (cs : Choices T) → AreBelow m cs → SaidBelow m (any_choice test cs)
choice-below m test [] h = tt
choice-below m test (c ∷ cs) h = choice-below-cases (test c.0) h.0 (choice-below m test cs h.1)
  where
    choice-below-cases : (b : Bool) → var_of c.1 < m → SaidBelow m (any_choice test cs)
        → SaidBelow m (any_statement (map (λ d. atom d.1) (if b then c ∷ passing test cs else passing test cs)))
    choice-below-cases true own rest = (own, rest)
    choice-below-cases false own rest = rest

just-below : (m : ℕ) (cs : Choices Text) (xs : List Text) → AreBelow m cs → SaidBelow m (any_statement (just_parts cs xs))
just-below m [] [] h = tt
just-below m [] (x ∷ xs) h = (tt, tt)
just-below m (c ∷ cs) [] h = (h.0, just-below m cs [] h.1)
just-below m (c ∷ cs) (x ∷ xs) h = just-below-cases (bytes_eq c.0 x) (just-below m cs xs h.1) (just-below m cs (x ∷ xs) h.1)
  where
    just-below-cases : (b : Bool) → SaidBelow m (any_statement (just_parts cs xs)) → SaidBelow m (any_statement (just_parts cs (x ∷ xs)))
        → SaidBelow m (any_statement (if b then atom c.1 ∷ just_parts cs xs else atom (negation c.1) ∷ just_parts cs (x ∷ xs)))
    just-below-cases true a b = (h.0, a)
    just-below-cases false a b = (h.0, b)

some-below : (m : ℕ) (xs : List Text) → SaidBelow m (any_statement (some_parts xs))
some-below m [] = (tt, tt)
some-below m (x ∷ xs) = tt

variants-below : (m : ℕ) (us : List (Text × Choices Text)) (ws : Variants) → AllBelow m (value_lits us)
    → SaidBelow m (any_statement (variant_parts us ws))
variants-below m [] [] h = tt
variants-below m [] (w ∷ ws) h = (tt, tt)
variants-below m (u ∷ us) [] h = let p = below-parts m (choice_lits u.1) (value_lits us) h in
    any_of-below m (just_parts u.1 []) (variant_parts us []) (just-below m u.1 [] p.0) (variants-below m us [] p.1)
variants-below m (u ∷ us) (w ∷ ws) h = let p = below-parts m (choice_lits u.1) (value_lits us) h in
    variants-below-cases p.0 (bytes_eq u.0 w.0) (variants-below m us ws p.1) (variants-below m us (w ∷ ws) p.1)
  where
    variants-below-cases : AreBelow m u.1 → (b : Bool) → SaidBelow m (any_statement (variant_parts us ws))
        → SaidBelow m (any_statement (variant_parts us (w ∷ ws)))
        → SaidBelow m (any_statement (if b then some_parts w.1 ++ (just_parts u.1 w.1 ++ variant_parts us ws) else just_parts u.1 []
        ++ variant_parts us (w ∷ ws)))
    variants-below-cases own true a b = any_of-below m (some_parts w.1) (just_parts u.1 w.1 ++ variant_parts us ws) (some-below m w.1)
        (any_of-below m (just_parts u.1 w.1) (variant_parts us ws) (just-below m u.1 w.1 own) a)
    variants-below-cases own false a b = any_of-below m (just_parts u.1 []) (variant_parts us (w ∷ ws)) (just-below m u.1 [] own) b

found-below : (m : ℕ) (us : List (Text × Choices Text)) (variant : Text) → AllBelow m (value_lits us)
    → AreBelow m (variant_choices_in (find_key byte_cmp variant_of us variant))
found-below m [] variant h = tt
found-below m (u ∷ us) variant h = let p = below-parts m (choice_lits u.1) (value_lits us) h in
    found-below-cases p.0 (eq_by_cmp byte_cmp u.0 variant) (found-below m us variant p.1)
  where
    found-below-cases : AreBelow m u.1 → (b : Bool) → AreBelow m (variant_choices_in (find_key byte_cmp variant_of us variant))
        → AreBelow m (variant_choices_in (if b then Some u else find_key byte_cmp variant_of us variant))
    found-below-cases own true rest = own
    found-below-cases own false rest = rest

-- ---- words

fact-below : (m : ℕ) (b : Block) → IsBlockBelow m b → (f : Fact) → SaidBelow m (fact_said b f)
fact-below m b h facts.is_there = h.present
fact-below m b h (facts.has_origin test) = choice-below m test b.origins h.origins
fact-below m b h (facts.has_version test) = choice-below m test b.versions h.versions
fact-below m b h (facts.has_compiler test) = choice-below m test b.compilers h.compilers
fact-below m b h (facts.has_os test) = choice-below m test b.os h.os
fact-below m b h (facts.has_target test) = choice-below m test b.targets h.targets
fact-below m b h (facts.has_prefix test) = choice-below m test b.prefixes h.prefixes
fact-below m b h (facts.has_variant variant) =
    choice-below m (λ value. true) (variant_choices b variant) (found-below m b.variants variant h.values)
fact-below m b h (facts.has_value variant test) =
    choice-below m test (variant_choices b variant) (found-below m b.variants variant h.values)
fact-below m b h (facts.has_single variant) =
    one_among-below m (choice_lits (variant_choices b variant)) (found-below m b.variants variant h.values)
fact-below m b h (facts.has_variants variants) =
    all_of-below m (atom b.present ∷ variant_parts b.variants variants) (h.present, variants-below m b.variants variants h.values)

kind-below : (m : ℕ) (b : Bool) (l : Lit) → var_of l < m → SaidBelow m (any_statement (kind_parts b l))
kind-below m true l h = (h, tt)
kind-below m false l h = tt

edge-below : (m : ℕ) (kinds : Kinds) (e : EdgeLits) → AllBelow m (kind_lits e) → SaidBelow m (edge_said kinds e)
edge-below m kinds e h = edge-below-cases (has_kind kinds)
  where
    edge-below-cases : (b : Bool) → SaidBelow m
        (if b then all_statements (kind_parts kinds.build e.build ++ (kind_parts kinds.link e.link ++ kind_parts kinds.run e.run))
        else any_statement (atom e.build ∷ atom e.link ∷ atom e.run ∷ []))
    edge-below-cases true =
        all_of-below m (kind_parts kinds.build e.build ++ (kind_parts kinds.link e.link ++ kind_parts kinds.run e.run))
        (any_of-below m (kind_parts kinds.build e.build) (kind_parts kinds.link e.link ++ kind_parts kinds.run e.run)
        (kind-below m kinds.build e.build h.0)
        (any_of-below m (kind_parts kinds.link e.link) (kind_parts kinds.run e.run) (kind-below m kinds.link e.link h.1.0)
        (kind-below m kinds.run e.run h.1.1.0)))
    edge-below-cases false = (h.0, (h.1.0, (h.1.1.0, tt)))

module _ (n : ℕ) (t : Table) (below : IsTableBelow n t) where
  block-below : (name : Text) (f : Fact) (o : Option Block) → block_of t name ≡ o → SaidBelow n (said_in (λ b. fact_said b f) o)
  block-below name f None at = tt
  block-below name f (Some b) at = fact-below n b
      (All-contains (IsBlockBelow n) t.blocks b below.blocks (find_sound nat_list_cmp_total ties_are_equal block_name t.blocks name b at).0)
      f

  ends-below : (parent child : Text) (kinds : Kinds) (o : Option EdgeLits) → edge_lits_of t parent child ≡ o
      → SaidBelow n (said_in (edge_said kinds) o)
  ends-below parent child kinds None at = tt
  ends-below parent child kinds (Some e) at = edge-below n kinds e
      (All-contains (λ (d : EdgeLits). AllBelow n (kind_lits d)) t.edges e below.edges
      (find_sound pair_total pair_exact ends_of_edge t.edges (parent, child) e at).0)

  packages-below : (virtual : Text) (o : Option ProviderLits) → find_key byte_cmp provider_virtual t.providers virtual ≡ o
      → AreBelow n (provider_packages o)
  packages-below virtual None at = tt
  packages-below virtual (Some p) at =
      All-contains (λ (q : ProviderLits). AreBelow n q.packages) t.providers p below.providers
      (find_sound nat_list_cmp_total ties_are_equal provider_virtual t.providers virtual p at).0

  virtuals-below : (parent child : Text) (o : Option EdgeLits) → edge_lits_of t parent child ≡ o → AreBelow n (virtual_choices o)
  virtuals-below parent child None at = tt
  virtuals-below parent child (Some e) at = All-contains (λ (d : EdgeLits). AreBelow n d.virtuals) t.edges e below.virtuals
      (find_sound pair_total pair_exact ends_of_edge t.edges (parent, child) e at).0

  pub words-below : WordsBelow n t
  words-below m path le paths (node_has name f) =
      SaidBelow-le n m (said_in (λ b. fact_said b f) (block_of t name)) le (block-below name f (block_of t name) refl)
  words-below m path le paths (provides_as virtual name) =
      SaidBelow-le n m (any_choice (λ p. bytes_eq p name) (packages_of t virtual)) le
      (choice-below n (λ p. bytes_eq p name) (packages_of t virtual)
      (packages-below virtual (find_key byte_cmp provider_virtual t.providers virtual) refl))
  words-below m path le paths (has_edge parent child kinds) =
      SaidBelow-le n m (said_in (edge_said kinds) (edge_lits_of t parent child)) le
      (ends-below parent child kinds (edge_lits_of t parent child) refl)
  words-below m path le paths (has_virtual parent child virtual) =
      SaidBelow-le n m (any_choice (bytes_eq virtual) (edge_virtuals t parent child)) le
      (choice-below n (bytes_eq virtual) (edge_virtuals t parent child) (virtuals-below parent child (edge_lits_of t parent child) refl))
  words-below m path le paths (has_virtuals parent child virtuals) =
      SaidBelow-le n m (all_statements (just_parts (edge_virtuals t parent child) virtuals)) le
      (all_of-below n (just_parts (edge_virtuals t parent child) virtuals)
      (just-below n (edge_virtuals t parent child) virtuals (virtuals-below parent child (edge_lits_of t parent child) refl)))
  words-below m path le paths (has_path from to) = paths from to
