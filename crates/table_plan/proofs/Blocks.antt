-- The block of a name spells its node.
use Rattle.std.proofs.Common.{◌≡◌, refl, sym, ap, subst, ◌∙◌, ℕ, ◌+◌, Bool, List, [], ◌∷◌, ◌++◌, map, length, Option, Some, None, Contains, ◌⊎◌, inl, inr, ⊎_elim, arith}
use Rattle.std.specs.Option.{option_eq}
use Rattle.std.specs.Str.{bytes_eq}
use Rattle.std.specs.Cmp.Lexicographic.{bytes_decides}
use Rattle.std.proofs.lemmas.List.{length-map, length-append}
use Rattle.reachability.proofs.CountLaws.{has_first, has_later, first_or_later, image_of}
use Rattle.variant_values.specs.Texts.{byte_cmp, IsInByteOrder}
use Rattle.keyed_lists.specs.Keyed.{IsInOrder}
use Rattle.keyed_lists.proofs.RiseLaws.{all_from}
use Rattle.graph_core.specs.Graphs.{Text}
use Rattle.graph_core.specs.declared.node.Node.{Node}
use Rattle.condition_rules.specs.Words.{is_one_text, is_some_and}
use Rattle.problem.specs.Problems.{same_compiler}
use Rattle.literal_table.specs.Choices.{Choices}
use Rattle.literal_table.specs.Tables.{AreVariantsInOrder, variant_of, value_of}
use Rattle.literal_table.specs.Spells.{SpellsNode, values_at, variants_of}
use Rattle.problem.specs.Nodes.{same_origin}
use Rattle.table_plan.specs.Offers.{Offers, OffersVariant, IsPossible, AreVariants}
use Rattle.table_plan.specs.declared.plan.Possible.{Possible}
use Rattle.table_plan.proofs.ExactTests.{origins_exact, options_exact, compilers_exact}
use Rattle.table_plan.specs.Numbers.{positive_lit, numbered, variants_from, width_of, value_count, block_width, block_from}
use Rattle.table_plan.specs.Spellings.{bits_of, value_bits, node_bits}
use Rattle.table_plan.proofs.ReadLaws.{Reads, reads_parts}
use Rattle.table_plan.proofs.Choices.{attribute_reads, variants_spelled}

-- ---- how many values

-- an attribute has as many bits as variables
pub length-bits_of : {T : Type 0} (same : T → T → Bool) (part : Node → T) (xs : List T) (o : Option Node)
    → length (bits_of same part xs o) ≡ width_of xs
length-bits_of same part [] o = refl
length-bits_of same part (x ∷ []) o = refl
length-bits_of same part (x ∷ y ∷ more) o = length-map (x ∷ y ∷ more) (λ z. is_some_and o (λ node. same (part node) z))

-- so have the values
pub length-value_bits : (vs variants : List (Text × List Text)) → length (value_bits vs variants) ≡ value_count vs
length-value_bits [] variants = refl
length-value_bits (v ∷ vs) variants = omega (
  arith,
  length-append (map (is_one_text (values_at variants v.0)) v.1) (value_bits vs variants),
  length-map v.1 (is_one_text (values_at variants v.0)),
  length-value_bits vs variants,
)

-- ---- the order of variants

-- what is numbered are the elements
pub numbered_keys : {T : Type 0} (n : ℕ) (xs : List T) → map (λ c. c.0) (numbered n xs) ≡ xs
numbered_keys n [] = refl
numbered_keys n (x ∷ xs) = ap (λ ys. x ∷ ys) (numbered_keys (n + 1) xs)

variant_keys : (n : ℕ) (vs : List (Text × List Text)) → map variant_of (variants_from n vs) ≡ map (λ v. v.0) vs
variant_keys n [] = refl
variant_keys n (v ∷ vs) = ap (λ ys. v.0 ∷ ys) (variant_keys (n + length v.1) vs)

pair_keys : (names : List Text) (values : Text → List Text)
    → map (λ (p : Text × List Text). p.0) (map (λ name. (name, values name)) names) ≡ names
pair_keys [] values = refl
pair_keys (name ∷ names) values = ap (λ ys. name ∷ ys) (pair_keys names values)

values_in_order : (n : ℕ) (vs : List (Text × List Text)) → ((v : Text × List Text) → Contains vs v → IsInByteOrder v.1)
    → (w : Text × Choices Text) → Contains (variants_from n vs) w → IsInOrder byte_cmp value_of w.1
values_in_order n [] each w there = absurd (omega (arith, there.1))
values_in_order n (v ∷ vs) each w there = ⊎_elim
    (λ same. subst (λ (u : Text × Choices Text). IsInOrder byte_cmp value_of u.1) same
    (subst IsInByteOrder (sym (numbered_keys n v.1)) (each v (has_first v vs))))
    (λ later. values_in_order (n + length v.1) vs (λ u in_vs. each u (has_later v vs u in_vs)) w later)
    (first_or_later (v.0, numbered n v.1) (variants_from (n + length v.1) vs) w there)

sets_in_order : (vs : List (Text × List Text)) → AreVariants vs → (v : Text × List Text) → Contains vs v → IsInByteOrder v.1
sets_in_order vs a v there =
    let from = image_of (λ (name : Text). let p : Text × List Text = (name, a.values name) in
    p) a.names v (subst (λ us. Contains us v) a.are there) in
    subst (λ (u : Text × List Text). IsInByteOrder u.1) from.2 (a.sets from.0)

names_in_order : (n : ℕ) (vs : List (Text × List Text)) → AreVariants vs → IsInOrder byte_cmp variant_of (variants_from n vs)
names_in_order n vs a =
    subst IsInByteOrder (sym (variant_keys n vs ∙ ap (map (λ (v : Text × List Text). v.0)) a.are ∙ pair_keys a.names a.values)) a.order

-- the variants of a block are in order
pub block_ordered : (n : ℕ) (p : Possible) → IsPossible p → AreVariantsInOrder (block_from n p)
unfolding block_from
block_ordered n p is = record {
  names = names_in_order _ p.variants is.variants;
  values = all_from (λ (w : Text × Choices Text). IsInOrder byte_cmp value_of w.1) (variants_from _ p.variants)
      (values_in_order _ p.variants (sets_in_order p.variants is.variants));
}

-- a block has the name that it is made for
pub block_named : (n : ℕ) (p : Possible) → (block_from n p).name ≡ p.name
unfolding block_from
block_named n p = refl

-- ---- what the block says

next_part : (v : ℕ → Bool) (m : ℕ) (bs cs : List Bool) (k : ℕ) → length bs ≡ k → Reads v m (bs ++ cs) → Reads v m bs × Reads v (m + k) cs
next_part v m bs cs k e r =
    let parts = reads_parts v m bs cs r in
    (parts.0, subst (λ j. Reads v (m + j) cs) e parts.1)

-- a node has as many bits as its block has variables
pub length-node_bits : (p : Possible) (o : Option Node) → length (node_bits p o) ≡ block_width p
length-node_bits p o =
    let a = bits_of same_origin (λ (node : Node). node.origin) p.origins o in
    let b = bits_of bytes_eq (λ (node : Node). node.version) p.versions o in
    let c = value_bits p.variants (variants_of o) in
    let d = bits_of (option_eq same_compiler) (λ (node : Node). node.compiler) p.compilers o in
    let e = bits_of bytes_eq (λ (node : Node). node.os) p.os o in
    let f = bits_of bytes_eq (λ (node : Node). node.target) p.targets o in
    let g = bits_of (option_eq bytes_eq) (λ (node : Node). node.prefix) p.prefixes o in
    omega (
      arith,
      length-append a (b ++ (c ++ (d ++ (e ++ (f ++ g))))),
      length-append b (c ++ (d ++ (e ++ (f ++ g)))),
      length-append c (d ++ (e ++ (f ++ g))),
      length-append d (e ++ (f ++ g)),
      length-append e (f ++ g),
      length-append f g,
      length-bits_of same_origin (λ (node : Node). node.origin) p.origins o,
      length-bits_of bytes_eq (λ (node : Node). node.version) p.versions o,
      length-value_bits p.variants (variants_of o),
      length-bits_of (option_eq same_compiler) (λ (node : Node). node.compiler) p.compilers o,
      length-bits_of bytes_eq (λ (node : Node). node.os) p.os o,
      length-bits_of bytes_eq (λ (node : Node). node.target) p.targets o,
      length-bits_of (option_eq bytes_eq) (λ (node : Node). node.prefix) p.prefixes o,
    )

module _ (v : ℕ → Bool) (n : ℕ) (p : Possible) (o : Option Node) (is : IsPossible p) (offers : (node : Node) → o ≡ Some node
    → Offers p node) where
  variants_case : (variants_of o ≡ []) ⊎ (IsInOrder byte_cmp (λ w. w.0) (variants_of o)
      × ((w : Text × List Text) → Contains (variants_of o) w → OffersVariant p.variants w))
  variants_case = variants_case-cases o offers
    where
      variants_case-cases : (r : Option Node) → ((node : Node) → r ≡ Some node → Offers p node) → (variants_of r ≡ [])
          ⊎ (IsInOrder byte_cmp (λ w. w.0) (variants_of r)
          × ((w : Text × List Text) → Contains (variants_of r) w → OffersVariant p.variants w))
      variants_case-cases None f = inl refl
      variants_case-cases (Some node) f = let has = f node refl in inr (has.variant_order, has.variants)

  -- bits of a node at the variables of its block spell it
  pub node_read : Reads v n (node_bits p o) → SpellsNode v (block_from n p) o
  unfolding block_from
  node_read r =
      let a = bits_of same_origin (λ (node : Node). node.origin) p.origins o in
      let b = bits_of bytes_eq (λ (node : Node). node.version) p.versions o in
      let c = value_bits p.variants (variants_of o) in
      let d = bits_of (option_eq same_compiler) (λ (node : Node). node.compiler) p.compilers o in
      let e = bits_of bytes_eq (λ (node : Node). node.os) p.os o in
      let f = bits_of bytes_eq (λ (node : Node). node.target) p.targets o in
      let g = bits_of (option_eq bytes_eq) (λ (node : Node). node.prefix) p.prefixes o in
      let ra = next_part v (n + 1) a (b ++ (c ++ (d ++ (e ++ (f ++ g))))) (width_of p.origins)
      (length-bits_of same_origin (λ (node : Node). node.origin) p.origins o) r.1 in
      let rb = next_part v _ b (c ++ (d ++ (e ++ (f ++ g)))) (width_of p.versions)
      (length-bits_of bytes_eq (λ (node : Node). node.version) p.versions o) ra.1 in
      let rc = next_part v _ c (d ++ (e ++ (f ++ g))) (value_count p.variants) (length-value_bits p.variants (variants_of o)) rb.1 in
      let rd = next_part v _ d (e ++ (f ++ g)) (width_of p.compilers)
      (length-bits_of (option_eq same_compiler) (λ (node : Node). node.compiler) p.compilers o) rc.1 in
      let re = next_part v _ e (f ++ g) (width_of p.os) (length-bits_of bytes_eq (λ (node : Node). node.os) p.os o) rd.1 in
      let rf = next_part v _ f g (width_of p.targets) (length-bits_of bytes_eq (λ (node : Node). node.target) p.targets o) re.1 in
      let ordered = block_ordered n p is in
      record {
        present = r.0;
        origin = attribute_reads v same_origin origins_exact (λ node. node.origin) (positive_lit n) _ p.origins o is.origins r.0
            (λ node s. (offers node s).origin) ra.0;
        version = attribute_reads v bytes_eq bytes_decides (λ node. node.version) (positive_lit n) _ p.versions o is.versions r.0
            (λ node s. (offers node s).version) rb.0;
        ordered = ordered;
        variants = variants_spelled v _ p.variants (variants_of o) is.variants variants_case rc.0;
        compiler = attribute_reads v (option_eq same_compiler) (options_exact same_compiler compilers_exact)
            (λ node. node.compiler) (positive_lit n) _
            p.compilers o is.compilers r.0 (λ node s. (offers node s).compiler) rd.0;
        os = attribute_reads v bytes_eq bytes_decides (λ node. node.os) (positive_lit n) _ p.os o is.os r.0
            (λ node s. (offers node s).os) re.0;
        target = attribute_reads v bytes_eq bytes_decides (λ node. node.target) (positive_lit n) _ p.targets o is.targets r.0
            (λ node s. (offers node s).target) rf.0;
        prefix = attribute_reads v (option_eq bytes_eq) (options_exact bytes_eq bytes_decides) (λ node. node.prefix) (positive_lit n)
            _ p.prefixes o
            is.prefixes r.0 (λ node s. (offers node s).prefix) rf.1;
      }
