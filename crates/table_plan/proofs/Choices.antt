-- What is chosen by numbered literals.
use Rattle.std.proofs.Common.{◌≡◌, refl, sym, ap, subst, ◌∙◌, ℕ, ◌+◌, Bool, true, false, cond, List, [], ◌∷◌, map, length, find, Option, Some, None, Contains, ◌⊎◌, ⊎_elim, arith}
use Rattle.std.specs.List.{filter, filter_map, cons_option}
use Rattle.std.specs.Option.{is_some}
use Rattle.std.specs.Str.{bytes_eq}
use Rattle.std.specs.Cmp.Lexicographic.{bytes_decides, nat_list_cmp_total}
use Rattle.std.proofs.lemmas.List.{length-map}
use Rattle.std.proofs.lemmas.List.Kept.{IsStrictlySortedBy-filter}
use Rattle.clause_store.specs.declared.Lit.{Lit}
use Rattle.clause_store.specs.Lits.{lit_true}
use Rattle.reachability.specs.Laws.{IsExact}
use Rattle.reachability.proofs.CountLaws.{first_or_later, image_of}
use Rattle.reachability.proofs.SpreadLaws.{from_filter, in_filter}
use Rattle.variant_values.specs.Texts.{byte_cmp, IsInByteOrder}
use Rattle.variant_values.proofs.Texts.{same_texts, ties_are_equal}
use Rattle.keyed_lists.specs.Keyed.{IsInOrder, find_key}
use Rattle.keyed_lists.proofs.RiseLaws.{all_from}
use Rattle.keyed_lists.proofs.GivenLaws.{is_given, filter_map-agree}
use Rattle.graph_core.specs.Graphs.{Text}
use Rattle.graph_core.proofs.PairLaws.{tells_alike}
use Rattle.graph_core.specs.declared.node.Node.{Node}
use Rattle.condition_rules.specs.Words.{is_one_text}
use Rattle.possible_closure.proofs.Lists.{found-there, in_among, from_among}
use Rattle.literal_table.specs.Choices.{chosen}
use Rattle.literal_table.specs.Spells.{SpellsOne, with_values, chosen_variants, values_at, values_or_none}
use Rattle.table_plan.specs.Gathering.{EachOnce}
use Rattle.table_plan.specs.Offers.{OffersVariant, AreVariants}
use Rattle.table_plan.proofs.GatherLaws.{only_one}
use Rattle.table_plan.specs.Numbers.{positive_lit, numbered, attribute, variants_from}
use Rattle.table_plan.specs.Spellings.{bits_of, value_bits}
use Rattle.table_plan.proofs.ReadLaws.{Reads, reads_parts}

-- no element passes what is always false
pub nothing_kept : {T : Type 0} (xs : List T) → filter (λ x. false) xs ≡ []
nothing_kept [] = refl
nothing_kept (x ∷ xs) = nothing_kept xs

-- what is chosen of a variant's values
abbrev kept_values : List (Text × List Text) → Text × List Text → Option (Text × List Text)
kept_values variants w = with_values w.0 (filter (is_one_text (values_at variants w.0)) w.1)

module _ (v : ℕ → Bool) where
  -- bits that are tests choose what passes
  pub numbered_reads : {T : Type 0} (test : T → Bool) (n : ℕ) (xs : List T) → Reads v n (map test xs)
      → chosen v (numbered n xs) ≡ filter test xs
  numbered_reads test n [] r = refl
  numbered_reads test n (x ∷ xs) r =
      let rest = numbered_reads test (n + 1) xs r.1 in
      rw r.0 (elim (test x) as (λ b. map (λ c. c.0) (cond b ((x, positive_lit n) ∷ filter (λ c. lit_true v c.1) (numbered (n + 1) xs))
      (filter (λ c. lit_true v c.1) (numbered (n + 1) xs))) ≡ cond b (x ∷ filter test xs) (filter test xs)) [
        | true ↦ ap (λ ys. x ∷ ys) rest
        | false ↦ rest
      ])

  -- ---- an attribute

  module _ {T : Type 0} (same : T → T → Bool) (exact : IsExact same) (part : Node → T) (present : Lit) where
    -- the bits of an attribute choose what the node has
    pub attribute_reads : (n : ℕ) (xs : List T) (o : Option Node) → EachOnce xs → lit_true v present ≡ is_some o
        → ((node : Node) → o ≡ Some node → Contains xs (part node)) → Reads v n (bits_of same part xs o)
        → SpellsOne v (attribute present n xs) part o
    attribute_reads n [] None once is there r = refl
    attribute_reads n [] (Some node) once is there r = absurd (let none = there node refl in omega (arith, none.1))
    attribute_reads n (x ∷ []) None once is there r = rw is refl
    attribute_reads n (x ∷ []) (Some node) once is there r =
        rw is (⊎_elim (λ one. ap (λ y. y ∷ []) one) (λ none. absurd (omega (arith, none.1)))
        (first_or_later x [] (part node) (there node refl)))
    attribute_reads n (x ∷ y ∷ more) None once is there r = numbered_reads (λ z. false) n (x ∷ y ∷ more) r ∙ nothing_kept (x ∷ y ∷ more)
    attribute_reads n (x ∷ y ∷ more) (Some node) once is there r = numbered_reads (same (part node)) n (x ∷ y ∷ more) r
        ∙ only_one same exact (x ∷ y ∷ more) (part node) once (there node refl)

  -- ---- variants

  variants_read : (n : ℕ) (vs variants : List (Text × List Text)) → Reads v n (value_bits vs variants)
      → chosen_variants v (variants_from n vs) ≡ filter_map (kept_values variants) vs
  variants_read n [] variants r = refl
  variants_read n (w ∷ ws) variants r =
      let parts = reads_parts v n (map (is_one_text (values_at variants w.0)) w.1) (value_bits ws variants) r in
      let here = numbered_reads (is_one_text (values_at variants w.0)) n w.1 parts.0 in
      let at : n + length (map (is_one_text (values_at variants w.0)) w.1) ≡ n + length w.1 =
      ap (λ m. n + m) (length-map w.1 (is_one_text (values_at variants w.0))) in
      let rest = variants_read (n + length w.1) ws variants (subst (λ m. Reads v m (value_bits ws variants)) at parts.1) in
      λ i. cons_option (with_values w.0 (here i)) (rest i)

-- the values that are kept of a set are those of a smaller set
pub smaller_set : (few many : List Text) → IsInByteOrder few → IsInByteOrder many → ((q : Text) → Contains few q → Contains many q)
    → filter (is_one_text few) many ≡ few
smaller_set few many order all within =
    same_texts (filter (is_one_text few) many) few (IsStrictlySortedBy-filter byte_cmp (is_one_text few) many all) order
    (λ q. (
      λ there. from_among few q (from_filter (is_one_text few) many q there).1,
      λ there. in_filter (is_one_text few) many q (within q there) (in_among few q there),
    ))

some_values : (name : Text) (values : List Text) → (values ≡ [] → ⊥) → with_values name values ≡ Some (name, values)
some_values name [] some = absurd (some refl)
some_values name (x ∷ xs) some = refl

module _ (names : List Text) (values : Text → List Text) (order : IsInByteOrder names) (sets : (name : Text)
    → IsInByteOrder (values name)) where
  abbrev Pairs : List (Text × List Text)
  Pairs = map (λ name. (name, values name)) names

  mapped_kept : (variants : List (Text × List Text)) (keys : List Text)
      → filter_map (kept_values variants) (map (λ name. (name, values name)) keys)
      ≡ filter_map (λ name. kept_values variants (name, values name)) keys
  mapped_kept variants [] = refl
  mapped_kept variants (key ∷ keys) = ap (cons_option (kept_values variants (key, values key))) (mapped_kept variants keys)

  module _ (variants : List (Text × List Text)) (rise : IsInOrder byte_cmp (λ w. w.0) variants)
      (offered : (w : Text × List Text) → Contains variants w → OffersVariant Pairs w) where
    pair_is : (w : Text × List Text) (o : OffersVariant Pairs w) → Contains names w.0 × (o.values ≡ values w.0)
    pair_is w o =
        let from = image_of (λ (name : Text). let p : Text × List Text = (name, values name) in p) names (w.0, o.values) o.there in
        let key : from.0 ≡ w.0 = ap (λ (p : Text × List Text). p.0) from.2 in
        (subst (Contains names) key from.1, sym (ap (λ (p : Text × List Text). p.1) from.2) ∙ ap values key)

    at_found : (name : Text) (o : Option (Text × List Text)) → find (λ w. bytes_eq w.0 name) variants ≡ o
        → with_values name (filter (is_one_text (values_or_none o)) (values name)) ≡ o
    at_found name None e = ap (with_values name) (nothing_kept (values name))
    at_found name (Some u) e =
        let at = found-there (λ (w : Text × List Text). bytes_eq w.0 name) variants u e in
        let key : u.0 ≡ name = (bytes_decides u.0 name).0 at.1 in
        let o = offered u at.0 in
        let is = pair_is u o in
        let all : o.values ≡ values name = is.1 ∙ ap values key in
        let same : filter (is_one_text u.1) (values name) ≡ u.1 =
        smaller_set u.1 (values name) o.order (sets name) (λ q there. subst (λ vs. Contains vs q) all (o.each q there)) in
        ap (with_values name) same ∙ some_values name u.1 o.some ∙ ap (λ n. Some (n, u.1)) (sym key)

    at_name : (name : Text) → kept_values variants (name, values name) ≡ find_key byte_cmp (λ w. w.0) variants name
    at_name name = at_found name (find (λ w. bytes_eq w.0 name) variants) refl ∙ sym (λ i. find (λ w. tells_alike w.0 name i) variants)

    -- all variants are kept with their values
    pub kept_all : filter_map (kept_values variants) Pairs ≡ variants
    kept_all =
        mapped_kept variants names
        ∙ filter_map-agree (λ name. kept_values variants (name, values name)) (find_key byte_cmp (λ w. w.0) variants) names
        (λ name there. at_name name)
        ∙ sym (is_given nat_list_cmp_total ties_are_equal (λ (w : Text × List Text). w.0) names variants order rise
        (all_from (λ (w : Text × List Text). Contains names w.0) variants (λ w there. (pair_is w (offered w there)).0)))

none_chosen : (names : List Text) (values : Text → List Text) → filter_map (kept_values []) (map (λ name. (name, values name)) names) ≡ []
none_chosen [] values = refl
none_chosen (name ∷ names) values = rw (nothing_kept (values name)) (none_chosen names values)

-- the variants of a node, or none
pub variants_spelled : (v : ℕ → Bool) (n : ℕ) (vs variants : List (Text × List Text)) → AreVariants vs
    → (variants ≡ []) ⊎ (IsInOrder byte_cmp (λ w. w.0) variants × ((w : Text × List Text) → Contains variants w → OffersVariant vs w))
    → Reads v n (value_bits vs variants) → chosen_variants v (variants_from n vs) ≡ variants
variants_spelled v n vs variants are which r =
    variants_read v n vs variants r ∙ ap (filter_map (kept_values variants)) are.are ∙ ⊎_elim
    (λ none. subst (λ us. filter_map (kept_values us) (map (λ name. (name, are.values name)) are.names) ≡ us) (sym none)
    (none_chosen are.names are.values))
    (λ some. kept_all are.names are.values are.order are.sets variants some.0
    (λ w there. subst (λ us. OffersVariant us w) are.are (some.1 w there)))
    which
