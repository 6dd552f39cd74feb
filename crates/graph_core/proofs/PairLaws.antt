-- Pairs of names: their order, the pairs of all names, and the run of one parent.
use Rattle.std.proofs.Common.{◌≡◌, refl, sym, ap, subst, ◌+◌, false, List, [], ◌∷◌, get_or, map, filter, Contains, ⊎_elim, arith}
use Rattle.std.proofs.lemmas.List.Elements.{filter_agree, Contains-append_left, Contains-append_right, Contains-append_cases}
use Rattle.std.proofs.lemmas.List.Sorted.{searchable_from_sorted}
use Rattle.std.proofs.lemmas.Bool.Decides.{same_from_decides}
use Rattle.std.specs.Cmp.{IsTotalOrder, tied_itself, on_total, then_total}
use Rattle.std.specs.Cmp.Lexicographic.{nat_list_cmp_total, bytes_decides}
use Rattle.std.specs.FinMap.{IsAntisymmetric}
use Rattle.std.specs.List.{flat_map}
use Rattle.std.specs.List.Sorted.{IsStrictlySortedBy, IsNonDecreasingBy}
use Rattle.std.specs.Ordering.{ordering_then, ordering_reverse, ordering_index, is_lt, is_eq, eq_by_cmp}
use Rattle.std.specs.Str.{bytes_eq}
use Rattle.std.specs.declared.cmp.Ordering.{Ordering}
use Rattle.std.specs.declared.cmp.Ordering.TheVariants.{Less, Equal, Greater}
use Rattle.keyed_lists.proofs.OfReachability.CountLaws.{has_first, has_later, first_or_later, has_image, image_of}
use Rattle.keyed_lists.specs.OfVariantValues.Texts.{byte_cmp}
use Rattle.keyed_lists.proofs.OfVariantValues.Texts2.{ties_are_equal}
use Rattle.keyed_lists.specs.Keyed.{IsInOrder}
use Rattle.keyed_lists.proofs.KeyedLaws.{key_less}
use Rattle.keyed_lists.proofs.RiseLaws.{rises_above, rises_rest, rises_none, rises_more, rises_append}
use Rattle.keyed_lists.proofs.TextLaws.{texts_decide}
use Rattle.graph_core.specs.declared.node.Edge.{Edge}
use Rattle.graph_core.specs.Graphs.{Text, ends_of, pair_cmp}
use Rattle.graph_core.specs.Given.{AreNames, pairs_of}

-- ---- the order

-- pairs of texts are in a total order
pub pair_total : IsTotalOrder pair_cmp
pair_total = then_total (on_total (λ p. p.0) nat_list_cmp_total) (on_total (λ p. p.1) nat_list_cmp_total)

both_tie : (r s : Ordering) → ordering_then r s ≡ Equal → (r ≡ Equal) × (s ≡ Equal)
both_tie Less s e = absurd (cc)
both_tie Equal s e = (refl, e)
both_tie Greater s e = absurd (cc)

-- pairs that tie are equal
pub pair_exact : IsAntisymmetric pair_cmp
pair_exact p q e =
    let ties = both_tie (byte_cmp p.0 q.0) (byte_cmp p.1 q.1) e in
    λ i. (ties_are_equal p.0 q.0 ties.0 i, ties_are_equal p.1 q.1 ties.1 i)

-- ---- the run of one parent

not_above : (p q : Text) (s : Ordering) → ordering_then (byte_cmp p q) s ≡ Less → is_lt (byte_cmp q p) ≡ false
not_above p q s e = rw (nat_list_cmp_total.antisymm q p) (not_above-cases (byte_cmp p q) e)
  where
    not_above-cases : (r : Ordering) → ordering_then r s ≡ Less → is_lt (ordering_reverse r) ≡ false
    not_above-cases Less e = refl
    not_above-cases Equal e = refl
    not_above-cases Greater e = absurd (cc)

-- in the order of edges their parents rise
pub parents_rise : (edges : List Edge) (name : Text) → IsInOrder pair_cmp ends_of edges
    → IsNonDecreasingBy (λ e. ordering_index (byte_cmp e.parent name)) edges
parents_rise edges name ordered = searchable_from_sorted nat_list_cmp_total (λ (e : Edge). e.parent) edges name (λ k d a b.
    not_above (get_or edges k d).parent (get_or edges (k + 1) d).parent (byte_cmp (get_or edges k d).child (get_or edges (k + 1) d).child)
    (key_less pair_total pair_exact ends_of edges k (k + 1) d ordered (omega arith) b))

-- texts are compared as equal where their bytes are
pub tells_alike : (p q : Text) → is_eq (byte_cmp p q) ≡ bytes_eq p q
tells_alike p q = same_from_decides (eq_by_cmp byte_cmp p q) (bytes_eq p q) (texts_decide p q) (bytes_decides p q)

-- the tests of a parent by its order and by its bytes leave the same edges
pub parents_alike : (edges : List Edge) (name : Text)
    → filter (λ e. is_eq (byte_cmp e.parent name)) edges ≡ filter (λ e. bytes_eq e.parent name) edges
parents_alike edges name = filter_agree (λ (e : Edge). is_eq (byte_cmp e.parent name)) (λ e. bytes_eq e.parent name)
    (λ e. tells_alike e.parent name) edges

-- ---- the pairs of all names

abbrev pub with_parent : Text → List Text → List (Text × Text)
with_parent parent names = map (λ child. (parent, child)) names

-- the pairs of one parent with names in order are in order
pub pairs_with : (parent : Text) (names : List Text) → AreNames names → IsStrictlySortedBy pair_cmp (with_parent parent names)
pairs_with parent [] rising = rises_none pair_cmp
pairs_with parent (name ∷ names) rising = rises_more pair_cmp (parent, name) (with_parent parent names) (λ pair there.
    let from = image_of (λ (child : Text). let p : Text × Text = (parent, child) in p) names pair there in
    let less : pair_cmp (parent, name) (parent, from.0) ≡ Less =
    rw (tied_itself nat_list_cmp_total parent) (rises_above byte_cmp name names rising from.0 from.1) in
    subst (λ p. pair_cmp (parent, name) p ≡ Less) from.2 less)
    (pairs_with parent names (rises_rest byte_cmp name names rising))

-- a name stands in a pair with the parent
pub in_with : (parent child : Text) (names : List Text) → Contains names child → Contains (with_parent parent names) (parent, child)
in_with parent child names there = has_image (λ (c : Text). let p : Text × Text = (parent, c) in p) names child there

pairs_from : (names parents : List Text) → AreNames names → AreNames parents
    → IsStrictlySortedBy pair_cmp (flat_map (λ parent. with_parent parent names) parents)
pairs_from names [] all rising = rises_none pair_cmp
pairs_from names (parent ∷ parents) all rising =
    rises_append pair_cmp (with_parent parent names) (flat_map (λ p. with_parent p names) parents)
    (pairs_with parent names all) (pairs_from names parents all (rises_rest byte_cmp parent parents rising)) (λ a b in_a in_b.
    let first = image_of (λ (c : Text). let p : Text × Text = (parent, c) in p) names a in_a in
    let later : byte_cmp parent b.0 ≡ Less = rises_above byte_cmp parent parents rising b.0 (parent_of parents b in_b) in
    subst (λ p. pair_cmp p b ≡ Less) first.2 (less_first parent first.0 b later))
  where
    less_first : (p c : Text) (b : Text × Text) → byte_cmp p b.0 ≡ Less → pair_cmp (p, c) b ≡ Less
    less_first p c b less = rw less refl

    parent_of : (parents : List Text) (b : Text × Text) → Contains (flat_map (λ p. with_parent p names) parents) b → Contains parents b.0
    parent_of [] b there = absurd (omega (arith, there.1))
    parent_of (p ∷ ps) b there = ⊎_elim
        (λ here. let from = image_of (λ (c : Text). let q : Text × Text = (p, c) in q) names b here in
        subst (Contains (p ∷ ps)) (ap (λ q. q.0) from.2) (has_first p ps))
        (λ later. has_later p ps b.0 (parent_of ps b later))
        (Contains-append_cases (with_parent p names) (flat_map (λ q. with_parent q names) ps) b there)

-- all pairs of names in order are in order
pub pairs_rise : (names : List Text) → AreNames names → IsStrictlySortedBy pair_cmp (pairs_of names)
pairs_rise names rising = pairs_from names names rising rising

-- each two names are a pair
pub in_pairs : (names : List Text) (parent child : Text) → Contains names parent → Contains names child
    → Contains (pairs_of names) (parent, child)
in_pairs names parent child = in_pairs-cases names
  where
    in_pairs-cases : (parents : List Text) → Contains parents parent → Contains names child
        → Contains (flat_map (λ p. with_parent p names) parents) (parent, child)
    in_pairs-cases [] there in_names = absurd (omega (arith, there.1))
    in_pairs-cases (p ∷ ps) there in_names = ⊎_elim
        (λ e. Contains-append_left (with_parent p names) (flat_map (λ q. with_parent q names) ps) (parent, child)
        (subst (λ q. Contains (with_parent q names) (parent, child)) (sym e) (in_with parent child names in_names)))
        (λ later. Contains-append_right (with_parent p names) (flat_map (λ q. with_parent q names) ps) (parent, child)
        (in_pairs-cases ps later in_names))
        (first_or_later p ps parent there)

-- a pair is of two of the names
pub from_pairs : (names : List Text) (pair : Text × Text) → Contains (pairs_of names) pair → Contains names pair.0 × Contains names pair.1
from_pairs names pair = from_pairs-cases names
  where
    from_pairs-cases : (parents : List Text) → Contains (flat_map (λ p. with_parent p names) parents) pair → Contains parents pair.0
        × Contains names pair.1
    from_pairs-cases [] there = absurd (omega (arith, there.1))
    from_pairs-cases (p ∷ ps) there = ⊎_elim
        (λ here. let from = image_of (λ (c : Text). let q : Text × Text = (p, c) in q) names pair here in
        (subst (Contains (p ∷ ps)) (ap (λ q. q.0) from.2) (has_first p ps), subst (Contains names) (ap (λ q. q.1) from.2) from.1))
        (λ later. let rest = from_pairs-cases ps later in (has_later p ps pair.0 rest.0, rest.1))
        (Contains-append_cases (with_parent p names) (flat_map (λ q. with_parent q names) ps) pair there)
