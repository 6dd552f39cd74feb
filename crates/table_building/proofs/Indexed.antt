-- What is found by an index is what a look through the lists finds.
use Rattle.std.proofs.Common.{◌≡◌, refl, sym, ap, subst, ◌∙◌, ℕ, ◌+◌, ◌<◌, Bool, true, false, List, [], ◌∷◌, ◌++◌, map, take, get_or, length, Contains}
use Rattle.std.specs.List.{filter, flat_map}
use Rattle.std.specs.Str.{bytes_eq}
use Rattle.std.specs.Cmp.Lexicographic.{bytes_decides}
use Rattle.std.proofs.lemmas.List.{take_more, flat_map_more}
use Rattle.std.proofs.lemmas.List.Elements.{filter-append}
use Rattle.std.proofs.lemmas.List.Folds.{flat_map-map}
use Rattle.std.proofs.lemmas.Grind.{flat_map-append}
use Rattle.std.proofs.lemmas.List.Kept.{IsStrictlySortedBy-filter}
use Rattle.reachability.proofs.CountLaws.{has_image, image_of}
use Rattle.reachability.proofs.SpreadLaws.{in_filter, from_filter}
use Rattle.variant_values.specs.Texts.{byte_cmp, IsInByteOrder, with_texts}
use Rattle.variant_values.proofs.Texts.{same_texts}
use Rattle.keyed_lists.specs.Lent.{with_text}
use Rattle.keyed_lists.proofs.Lent.{filter_mapped}
use Rattle.graph_core.specs.Graphs.{Text}
use Rattle.graph_core.specs.declared.node.Node.{Node}
use Rattle.recipe_data.specs.declared.recipe.VariantRow.{VariantRow}
use Rattle.condition_rules.specs.Words.{is_one_text}
use Rattle.problem.specs.Problems.{Problem}
use Rattle.problem.specs.Closure.{possible_providers}
use Rattle.possible_closure.proofs.Lists.{in_flat_map, from_flat_map, in_among, from_among, none_in_order, texts_in_order}
use Rattle.table_plan.specs.Gathering.{listed}
use Rattle.table_plan.specs.Plans.{wanted_virtuals, answerable, possible_edge}
use Rattle.table_building.specs.Parts.{answers_in, edge_by, values_of, values_by, entries_by, values_in}
use Rattle.table_building.proofs.Steps.{texts_same}

-- ---- sets

-- of two sets, those of the one that stand in the other
pub among_each : (a b : List Text) → IsInByteOrder a → IsInByteOrder b → filter (is_one_text b) a ≡ filter (is_one_text a) b
among_each a b ordered rising = same_texts (filter (is_one_text b) a) (filter (is_one_text a) b)
    (IsStrictlySortedBy-filter byte_cmp (is_one_text b) a ordered) (IsStrictlySortedBy-filter byte_cmp (is_one_text a) b rising)
    (λ q. (across a b q, across b a q))
  where
    across : (xs ys : List Text) (q : Text) → Contains (filter (is_one_text ys) xs) q → Contains (filter (is_one_text xs) ys) q
    across xs ys q there =
        let at = from_filter (is_one_text ys) xs q there in
        in_filter (is_one_text xs) ys q (from_among ys q at.1) (in_among xs q at.0)

-- ---- one element more

-- one more of the lists that are joined
pub joined_next : {X Y : Type 0} (f : X → List Y) (xs : List X) (i : ℕ) (x : X) → i < length xs → x ≡ get_or xs i x
    → flat_map f (take i xs) ++ f x ≡ flat_map f (take (i + 1) xs)
joined_next f xs i x lt is =
    flat_map_more f [] (take i xs) x ∙ ap (flat_map f) (ap (λ z. take i xs ++ z ∷ []) is ∙ sym (take_more xs i x lt))

-- ---- what edges may name

-- a virtual behind each package that may provide it
abbrev pub Answering : Problem → Text → List (Text × Text)
Answering problem virtual = map (λ provider. (provider, virtual)) (possible_providers problem virtual)

module _ (problem : Problem) (wanted : List Text) (child : Text) where
  -- what stands behind a package is wanted, and it may provide that
  from_answers : (q : Text) → Contains (map (λ (e : Text × Text). e.1) (with_text child (answers_in problem wanted))) q
      → Contains (filter (λ virtual. is_one_text (possible_providers problem virtual) child) wanted) q
  from_answers q there =
      let at = image_of (λ (e : Text × Text). e.1) (with_text child (answers_in problem wanted)) q there in
      let behind = from_filter (λ (e : Text × Text). bytes_eq e.0 child) (answers_in problem wanted) at.0 at.1 in
      let wants = from_flat_map (Answering problem) wanted at.0 behind.0 in
      let provides = image_of (λ provider. let pair : Text × Text = (provider, wants.0) in pair) (possible_providers problem wants.0) at.0
      wants.2 in
      let name : wants.0 ≡ q = ap (λ (e : Text × Text). e.1) provides.2 ∙ at.2 in
      let named : provides.0 ≡ child = ap (λ (e : Text × Text). e.0) provides.2 ∙ (bytes_decides at.0.0 child).0 behind.1 in
      in_filter (λ virtual. is_one_text (possible_providers problem virtual) child) wanted q (subst (Contains wanted) name wants.1)
      (in_among (possible_providers problem q) child
      (subst (λ v. Contains (possible_providers problem v) child) name
      (subst (Contains (possible_providers problem wants.0)) named provides.1)))

  -- what is wanted and may be provided by a package stands behind it
  to_answers : (q : Text) → Contains (filter (λ virtual. is_one_text (possible_providers problem virtual) child) wanted) q
      → Contains (map (λ (e : Text × Text). e.1) (with_text child (answers_in problem wanted))) q
  to_answers q there =
      let at = from_filter (λ virtual. is_one_text (possible_providers problem virtual) child) wanted q there in
      let pair : Text × Text = (child, q) in
      let provides = has_image (λ provider. let one : Text × Text = (provider, q) in one) (possible_providers problem q) child
      (from_among (possible_providers problem q) child at.1) in
      has_image (λ (e : Text × Text). e.1) (with_text child (answers_in problem wanted)) pair
      (in_filter (λ (e : Text × Text). bytes_eq e.0 child) (answers_in problem wanted) pair
      (in_flat_map (Answering problem) wanted q pair at.0 provides) ((bytes_decides child child).1 refl))

  -- the virtuals behind a package, as a set
  pub answers_are : (index : List (Text × Text)) → IsInByteOrder wanted
      → ((text : Text) → with_text text index ≡ with_text text (answers_in problem wanted))
      → with_texts [] (map (λ e. e.1) (with_text child index))
      ≡ filter (λ virtual. is_one_text (possible_providers problem virtual) child) wanted
  answers_are index rising same =
      let few = map (λ (e : Text × Text). e.1) (with_text child (answers_in problem wanted)) in
      ap (λ (es : List (Text × Text)). with_texts [] (map (λ (e : Text × Text). e.1) es)) (same child)
      ∙ same_texts (with_texts [] few) (filter (λ virtual. is_one_text (possible_providers problem virtual) child) wanted)
      (texts_in_order [] few none_in_order)
      (IsStrictlySortedBy-filter byte_cmp (λ virtual. is_one_text (possible_providers problem virtual) child) wanted rising)
      (λ q. (λ there. from_answers q ((texts_same few q).0 there), λ there. (texts_same few q).1 (to_answers q there)))

-- the edges that are made by the index are those of the plan
pub edges_by : (problem : Problem) (parent : Text) (index : List (Text × Text))
    → ((text : Text) → with_text text index ≡ with_text text (answers_in problem (wanted_virtuals problem parent)))
    → (children : List Text) → map (edge_by index parent) children ≡ map (λ child. possible_edge problem (parent, child)) children
unfolding answerable wanted_virtuals
edges_by problem parent index same [] = refl
edges_by problem parent index same (child ∷ children) =
    let virtuals = answers_are problem (wanted_virtuals problem parent) child index (texts_in_order [] _ none_in_order) same in
    let rest = edges_by problem parent index same children in
    let here : edge_by index parent child ≡ possible_edge problem (parent, child) =
    λ i. record { parent = parent; child = child; virtuals = virtuals i } in
    λ i. here i ∷ rest i

-- ---- values of variants

module _ (variant : Text) where
  abbrev Named : List (Text × List Text) → List (Text × List Text)
  Named entries = with_text variant entries

  abbrev Joined : List (Text × List Text) → List Text
  Joined entries = flat_map (λ (e : Text × List Text). e.1) entries

  of_rows : (can : Bool) (rows : List VariantRow) → Joined (Named (listed can (map (λ row. (row.name, row.values)) rows)))
      ≡ listed can (flat_map (λ row. row.values) (filter (λ row. bytes_eq row.name variant) rows))
  of_rows false rows = refl
  of_rows true rows =
      ap Joined (filter_mapped (λ (row : VariantRow). (row.name, row.values)) (λ e. bytes_eq e.0 variant) rows)
      ∙ flat_map-map (λ (e : Text × List Text). e.1) (λ (row : VariantRow). (row.name, row.values))
      (filter (λ row. bytes_eq row.name variant) rows)

  of_nodes : (nodes : List Node) → Joined (Named (flat_map (λ node. node.variants) nodes))
      ≡ flat_map (λ node. values_of variant node.variants) nodes
  of_nodes [] = refl
  of_nodes (node ∷ nodes) =
      ap Joined (filter-append (λ (e : Text × List Text). bytes_eq e.0 variant) node.variants (flat_map (λ (n : Node). n.variants) nodes))
      ∙ flat_map-append (λ (e : Text × List Text). e.1) (Named node.variants) (Named (flat_map (λ (n : Node). n.variants) nodes))
      ∙ ap (λ l. values_of variant node.variants ++ l) (of_nodes nodes)

  -- the values behind a variant are those that the rows and the nodes have of it
  pub values_are : (can : Bool) (rows : List VariantRow) (kept : List Node) (index : List (Text × List Text))
      → ((text : Text) → with_text text index ≡ with_text text (entries_by can rows kept))
      → values_in index variant ≡ values_by can rows kept variant
  values_are can rows kept index same =
      let built = listed can (map (λ (row : VariantRow). let e : Text × List Text = (row.name, row.values) in e) rows) in
      let others = flat_map (λ (n : Node). n.variants) kept in
      let first = of_rows can rows in
      let rest = of_nodes kept in
      ap (λ (es : List (Text × List Text)). with_texts [] (Joined es)) (same variant
      ∙ filter-append (λ (e : Text × List Text). bytes_eq e.0 variant) built others)
      ∙ ap (with_texts []) (flat_map-append (λ (e : Text × List Text). e.1) (Named built) (Named others) ∙ (λ i. first i ++ rest i))

-- a variant with its values
abbrev pub With : (Text → List Text) → Text → Text × List Text
With values variant = (variant, values variant)

-- so it is for each variant
pub values_indexed : (can : Bool) (rows : List VariantRow) (kept : List Node) (index : List (Text × List Text))
    → ((text : Text) → with_text text index ≡ with_text text (entries_by can rows kept)) → (names : List Text)
    → map (With (values_in index)) names ≡ map (With (values_by can rows kept)) names
values_indexed can rows kept index same [] = refl
values_indexed can rows kept index same (name ∷ names) =
    let here = values_are name can rows kept index same in
    let rest = values_indexed can rows kept index same names in
    λ i. (name, here i) ∷ rest i
