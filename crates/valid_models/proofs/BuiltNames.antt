-- The table of a closure has each variant that a recipe defines, where it offers to build the name.
use Rattle.std.proofs.Common.{◌≡◌, refl, sym, ap, subst, ◌∙◌, Bool, true, false, cond, ℕ, ◌+◌, List, [], ◌∷◌, ◌++◌, map, Some, Contains, length, inl, ⊎_elim, arith}
use Rattle.std.specs.List.{list_all, list_any}
use Rattle.std.proofs.lemmas.Bool.{false≢true}
use Rattle.std.proofs.lemmas.Option.{none-some}
use Rattle.std.proofs.lemmas.List.Elements.{Contains-append_left}
use Rattle.std.specs.Ordering.{eq_by_cmp}
use Rattle.clause_store.specs.declared.Lit.{Lit}
use Rattle.variant_values.specs.Texts.{byte_cmp}
use Rattle.keyed_lists.specs.Keyed.{find_key}
use Rattle.virtuals.proofs.VirtualLaws.{any_of, from_any}
use Rattle.graph_core.specs.Graphs.{Text}
use Rattle.graph_core.specs.declared.node.Node.{Node}
use Rattle.graph_core.specs.declared.node.Origin.{Origin}
use Rattle.graph_core.specs.declared.node.Origin.TheVariants.{Built}
use Rattle.condition_rules.specs.Words.{is_one_text}
use Rattle.site_settings.specs.declared.settings.ExternalEntry.{ExternalEntry}
use Rattle.reuse_db.specs.declared.record.Record.{Record}
use Rattle.problem.specs.Problems.{Problem, variants_at, package_entry_of, externals_in}
use Rattle.graph_rules.specs.Kept.{external_node}
use Rattle.reuse_db.specs.Installed.{installed_node}
use Rattle.graph_rules.proofs.Lists.{In-contains, contains-In, list_all-from}
use Rattle.possible_closure.proofs.Lists.{in_texts}
use Rattle.literal_table.specs.Choices as choices
use Rattle.literal_table.specs.Tables.{block_name, variant_of}
use Rattle.literal_table.specs.declared.block.Block.{Block}
use Rattle.literal_table.proofs.Spelling.{found-named}
use Rattle.table_plan.specs.Gathering.{gathered, listed}
use Rattle.table_plan.specs.Kept.{external_nodes, kept_nodes}
use Rattle.table_plan.specs.Plans.{can_build, offered, variant_names, variant_values, possible_at, plan_of}
use Rattle.problem.specs.Nodes.{same_origin, builds}
use Rattle.table_plan.proofs.GatherLaws.{from_gathered}
use Rattle.table_plan.proofs.ExactTests.{origins_exact}
use Rattle.table_plan.specs.Numbers.{positive_lit, numbered, attribute, variants_from, block_width, block_from, blocks_from, table_from}
use Rattle.graph_formulas.specs.Laws.{variants_in, variants_of}
use Rattle.graph_formulas.proofs.AllVariants.{among-In}
use Rattle.valid_models.specs.Tables.{table_for}
use Rattle.valid_models.specs.Joined.{HasBuiltVariants}

-- ---- what choices offer

numbered-offers : {T : Type 0} (n : ℕ) (xs : List T) → choices.choice_values (numbered n xs) ≡ xs
numbered-offers n [] = refl
numbered-offers n (x ∷ xs) = ap (λ ys. x ∷ ys) (numbered-offers (n + 1) xs)

attribute-offers : {T : Type 0} (l : Lit) (n : ℕ) (xs : List T) → choices.choice_values (attribute l n xs) ≡ xs
attribute-offers l n [] = refl
attribute-offers l n (x ∷ []) = refl
attribute-offers l n (x ∷ y ∷ more) = numbered-offers n (x ∷ y ∷ more)

variant-keys : (n : ℕ) (vs : List (Text × List Text)) → map variant_of (variants_from n vs) ≡ map (λ (v : Text × List Text). v.0) vs
variant-keys n [] = refl
variant-keys n (v ∷ vs) = ap (λ ys. v.0 ∷ ys) (variant-keys (n + length v.1) vs)

pair-keys : (f : Text → List Text) (xs : List Text) → map (λ (v : Text × List Text). v.0) (map (λ x. (x, f x)) xs) ≡ xs
pair-keys f [] = refl
pair-keys f (x ∷ xs) = ap (λ ys. x ∷ ys) (pair-keys f xs)

-- ---- kept nodes are not built

external-kept : (problem : Problem) (name : Text) (k : ℕ) (es : List ExternalEntry) (rest : List Node)
    → list_any builds (map (λ node. node.origin) rest) ≡ false
    → list_any builds (map (λ node. node.origin) (external_nodes problem name k es ++ rest)) ≡ false
unfolding external_node
external-kept problem name k [] rest h = h
external-kept problem name k (e ∷ es) rest h = external-kept problem name (k + 1) es rest h

installed-kept : (es : List Record) → list_any builds (map (λ node. node.origin) (map installed_node es)) ≡ false
unfolding installed_node
installed-kept [] = refl
installed-kept (e ∷ es) = installed-kept es

none-built : (problem : Problem) (name : Text) → list_any builds (map (λ node. node.origin) (kept_nodes problem name)) ≡ false
unfolding kept_nodes
none-built problem name = external-kept problem name 0 (externals_in (package_entry_of problem name)) _ (installed-kept _)

module _ (problem : Problem) (name : Text) where
  abbrev origins : Bool → List Origin
  origins b = listed b (Built ∷ []) ++ map (λ node. node.origin) (kept_nodes problem name)

  only-buildable : (b : Bool) → list_any builds (gathered same_origin [] (origins b)) ≡ true → b ≡ true
  only-buildable true h = refl
  only-buildable false h =
      let at = from_any builds (gathered same_origin [] (origins false)) h in
      let there = ⊎_elim (λ none. absurd (omega (arith, none.1))) (λ kept. kept)
      (from_gathered same_origin origins_exact [] (origins false) at.0 at.1) in
      absurd (false≢true (sym (none-built problem name)
      ∙ any_of builds (map (λ node. node.origin) (kept_nodes problem name)) at.0 there at.2))

  offers-buildable : list_any builds (offered same_origin problem name (Built ∷ []) (λ node. node.origin)) ≡ true
      → can_build problem name ≡ true
  unfolding offered
  offers-buildable h = only-buildable (can_build problem name) h

  named : can_build problem name ≡ true → list_all (is_one_text (variant_names problem name))
      (map (λ row. row.name) (variants_at problem name)) ≡ true
  unfolding variant_names
  named is = list_all-from (is_one_text (variant_names problem name)) (map (λ row. row.name) (variants_at problem name))
      (λ x there. among-In (variant_names problem name) x (contains-In (variant_names problem name) x
      (in_texts [] _ x
      (inl (Contains-append_left _ _ x (subst (λ b. Contains (listed b (map (λ row. row.name) (variants_at problem name))) x) (sym is)
      (In-contains (map (λ row. row.name) (variants_at problem name)) x there)))))))

  block-has : (k : ℕ) → list_any builds (choices.choice_values (block_from k (possible_at problem name)).origins) ≡ true
      → list_all (is_one_text (map variant_of (block_from k (possible_at problem name)).variants))
      (map (λ row. row.name) (variants_at problem name)) ≡ true
  unfolding block_from possible_at
  block-has k h =
      let can = offers-buildable (ap (list_any builds)
      (sym (attribute-offers (positive_lit k) (k + 1) (offered same_origin problem name (Built ∷ []) (λ node. node.origin)))) ∙ h) in
      ap (λ vs. list_all (is_one_text vs) (map (λ row. row.name) (variants_at problem name)))
      (variant-keys _ (map (λ variant. (variant, variant_values problem name variant)) (variant_names problem name))
      ∙ pair-keys (variant_values problem name) (variant_names problem name))
      ∙ named can

-- ---- what is found

found-block : (problem : Problem) (names : List Text) (n : ℕ) (name : Text) (b : Block)
    → find_key byte_cmp block_name (blocks_from n (map (possible_at problem) names)) name ≡ Some b
    → (k : ℕ) × (m : Text) × (block_from k (possible_at problem m) ≡ b)
found-block problem [] n name b e = absurd (none-some b e)
found-block problem (m ∷ ms) n name b e =
    found-block-cases (eq_by_cmp byte_cmp (block_name (block_from n (possible_at problem m))) name) e
    (found-block problem ms (n + block_width (possible_at problem m)) name b)
  where
    found-block-cases : (d : Bool) → cond d (Some (block_from n (possible_at problem m)))
        (find_key byte_cmp block_name (blocks_from (n + block_width (possible_at problem m)) (map (possible_at problem) ms)) name) ≡ Some b
        → (find_key byte_cmp block_name (blocks_from (n + block_width (possible_at problem m)) (map (possible_at problem) ms)) name ≡ Some b
        → (k : ℕ) × (m : Text) × (block_from k (possible_at problem m) ≡ b))
        → (k : ℕ) × (m : Text) × (block_from k (possible_at problem m) ≡ b)
    found-block-cases true is rest = let same : block_from n (possible_at problem m) ≡ b = cc in (n, m, same)
    found-block-cases false is rest = rest is

block-name : (problem : Problem) (k : ℕ) (m : Text) → block_name (block_from k (possible_at problem m)) ≡ m
unfolding block_from possible_at
block-name problem k m = refl

-- a name that may be built has all variants of its recipe
pub has-built-variants : (problem : Problem) (names : List Text) → HasBuiltVariants problem (table_for problem names)
unfolding table_from plan_of
has-built-variants problem names name b at offers =
    let f = found-block problem names 0 name b at in
    let same : f.1 ≡ name = sym (block-name problem f.0 f.1) ∙ ap block_name f.2
    ∙ found-named block_name (blocks_from 0 (map (possible_at problem) names)) name b at in
    let block : block_from f.0 (possible_at problem name) ≡ b = subst (λ m. block_from f.0 (possible_at problem m) ≡ b) same f.2 in
    let has = block-has problem name f.0 (ap (λ c. list_any builds (choices.choice_values c.origins)) block ∙ offers) in
    let there : variants_of (table_for problem names) name ≡ map variant_of b.variants = ap variants_in at in
    ap (λ vs. list_all (is_one_text vs) (map (λ row. row.name) (variants_at problem name))) (there
    ∙ ap (λ c. map variant_of c.variants) (sym block)) ∙ has
