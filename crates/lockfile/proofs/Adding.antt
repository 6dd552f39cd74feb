-- Lists in order, to which elements are added one by one: what stands first is found.
use Rattle.std.proofs.Common.{◌≡◌, refl, sym, ap, subst, ◌∙◌, Bool, true, false, cond, Option, Some, None, option_map, List, [], ◌∷◌, map, Contains, ◌↔◌, IsTrue}
use Rattle.std.specs.Ordering.{is_eq, eq_by_cmp}
use Rattle.std.specs.declared.cmp.Ordering.{Ordering}
use Rattle.std.specs.declared.cmp.Ordering.TheVariants.{Less, Equal, Greater}
use Rattle.std.specs.Cmp.{IsTotalOrder}
use Rattle.std.specs.FinMap.{IsAntisymmetric}
use Rattle.std.proofs.lemmas.Bool.{false≢true}
use Rattle.keyed_lists.specs.Keyed.{find_key, with_one}
use Rattle.std.specs.Cmp.Lexicographic.{nat_list_cmp_total}
use Rattle.variant_values.specs.Texts.{byte_cmp}
use Rattle.variant_values.proofs.Texts.{ties_are_equal}
use Rattle.keyed_lists.specs.Keyed.{IsInOrder}
use Rattle.keyed_lists.proofs.KeyedLaws.{in_order-with_one, none_from_map}
use Rattle.keyed_lists.proofs.LookupLaws.{find-with_one}
use Rattle.graph_core.specs.Graphs.{Text, Content, HasNode, name_of, node_of, ends_of, edge_of, pair_cmp, virtual_of, provider_of, with_node, with_edge, with_provider}
use Rattle.graph_core.specs.declared.node.Edge.{Edge}
use Rattle.graph_core.specs.declared.node.Node.{Node}
use Rattle.graph_core.proofs.PairLaws.{pair_total, pair_exact}
use Rattle.lockfile.specs.Named.{later, Collected, Collects, HasEnds}

-- nothing later changes nothing
pub later_none : {X : Type 0} (r : Option X) → later r None ≡ r
later_none None = refl
later_none (Some x) = refl

module _ {X K : Type 0} {R : K → K → Ordering} (o : IsTotalOrder R) (exact : IsAntisymmetric R) (key : X → K) where
  is_tie : (r : Ordering) → is_eq r ≡ true → r ≡ Equal
  is_tie Less e = absurd (false≢true e)
  is_tie Equal e = refl
  is_tie Greater e = absurd (false≢true e)

  -- x comes first where nothing is found, and else what is found
  swapped : (e : Bool) (x : X) (found r : Option X) → (e ≡ true → found ≡ None)
      → later (cond e (Some x) found) r ≡ later found (cond e (Some x) r)
  swapped true x found r none = rw (none refl) refl
  swapped false x found r none = refl

  kept : (e : Bool) (x : X) (found r : Option X) → (e ≡ true → found ≡ None → ⊥) → later found r ≡ later found (cond e (Some x) r)
  kept true x None r some = absurd (some refl refl)
  kept true x (Some y) r some = refl
  kept false x found r some = refl

  -- an element more is added where its key is not there, and what is found first is the same
  pub taken : (xs rest : List X) (x : X) (b : Bool) (new : List X) → IsTrue b ↔ (find_key R key xs (key x) ≡ None)
      → new ≡ cond b (with_one R key xs x) xs
      → (k : K) → later (find_key R key new k) (find_key R key rest k) ≡ later (find_key R key xs k) (find_key R key (x ∷ rest) k)
  taken xs rest x true new tells is k =
      let absent = tells.0 refl in
      rw (is, find-with_one o exact key xs x k absent)
      (swapped (eq_by_cmp R (key x) k) x (find_key R key xs k) (find_key R key rest k)
      (λ e. ap (find_key R key xs) (sym (exact (key x) k (is_tie _ e))) ∙ absent))
  taken xs rest x false new tells is k =
      rw is (kept (eq_by_cmp R (key x) k) x (find_key R key xs k) (find_key R key rest k)
      (λ e none. false≢true (tells.1 (ap (find_key R key xs) (exact (key x) k (is_tie _ e)) ∙ none))))

-- the rest without its first, which was added
pub one_less : {X K : Type 0} (R : K → K → Ordering) (key : X → K) (old new before rest all : List X) (x : X) → Collected R key old x new
    → before ≡ x ∷ rest → Collects R key old before all → Collects R key new rest all
one_less R key old new before rest all x adds is collects k =
    adds rest k ∙ ap (λ xs. later (find_key R key old k) (find_key R key xs k)) (sym is) ∙ collects k

-- where nothing is left all was collected
pub none_left : {X K : Type 0} (R : K → K → Ordering) (key : X → K) (done rest all : List X) → rest ≡ [] → Collects R key done rest all
    → (k : K) → find_key R key done k ≡ find_key R key all k
none_left R key done rest all is collects k = sym (later_none (find_key R key done k))
    ∙ ap (λ xs. later (find_key R key done k) (find_key R key xs k)) (sym is) ∙ collects k

-- ---- the parts of a graph

-- a node is taken where none has its name
pub node_taken : (old new : Content) (node : Node) (added : Bool) → IsTrue added ↔ (node_of old node.name ≡ None)
    → new ≡ cond added (with_node old node) old
    → Collected byte_cmp name_of old.nodes node new.nodes × (new.edges ≡ old.edges) × (new.providers ≡ old.providers)
node_taken old new node true tells is = (
  λ rest k. taken nat_list_cmp_total ties_are_equal name_of old.nodes rest node true new.nodes tells (ap (λ (g : Content). g.nodes) is) k,
  ap (λ (g : Content). g.edges) is,
  ap (λ (g : Content). g.providers) is,
)
node_taken old new node false tells is = (
  λ rest k. taken nat_list_cmp_total ties_are_equal name_of old.nodes rest node false new.nodes tells (ap (λ (g : Content). g.nodes) is) k,
  ap (λ (g : Content). g.edges) is,
  ap (λ (g : Content). g.providers) is,
)

-- an edge is taken where none is between its ends
pub edge_taken : (old new : Content) (edge : Edge) (added : Bool) → HasEnds old edge → IsTrue added
    ↔ ((edge_of old edge.parent edge.child ≡ None) × HasNode old edge.parent × HasNode old edge.child)
    → new ≡ cond added (with_edge old edge) old → Collected pair_cmp ends_of old.edges edge new.edges × (new.nodes ≡ old.nodes)
    × (new.providers ≡ old.providers)
edge_taken old new edge true ends tells is = (
  λ rest k. taken pair_total pair_exact ends_of old.edges rest edge true new.edges
      (λ t. (tells.0 t).0, λ none. tells.1 (none, ends.0, ends.1)) (ap (λ (g : Content). g.edges) is) k,
  ap (λ (g : Content). g.nodes) is,
  ap (λ (g : Content). g.providers) is,
)
edge_taken old new edge false ends tells is = (
  λ rest k. taken pair_total pair_exact ends_of old.edges rest edge false new.edges
      (λ t. (tells.0 t).0, λ none. tells.1 (none, ends.0, ends.1)) (ap (λ (g : Content). g.edges) is) k,
  ap (λ (g : Content). g.nodes) is,
  ap (λ (g : Content). g.providers) is,
)

-- a provider is taken where its virtual has none
pub provider_taken : (old new : Content) (name provider : Text) (added : Bool) → HasNode old provider → IsTrue added
    ↔ ((provider_of old name ≡ None) × HasNode old provider)
    → new ≡ cond added (with_provider old name provider) old → Collected byte_cmp virtual_of old.providers (name, provider) new.providers
    × (new.nodes ≡ old.nodes) × (new.edges ≡ old.edges)
provider_taken old new name provider true there tells is = (
  λ rest k. taken nat_list_cmp_total ties_are_equal virtual_of old.providers rest (name, provider) true new.providers (
    λ t. none_from_map (λ (p : Text × Text). p.1) (find_key byte_cmp virtual_of old.providers name) (tells.0 t).0,
    λ none. tells.1
        (ap (λ o. option_map (λ (p : Text × Text). p.1) o) none, there),
  ) (ap (λ (g : Content). g.providers) is) k,
  ap (λ (g : Content). g.nodes) is,
  ap (λ (g : Content). g.edges) is,
)
provider_taken old new name provider false there tells is = (
  λ rest k. taken nat_list_cmp_total ties_are_equal virtual_of old.providers rest (name, provider) false new.providers (
    λ t. none_from_map (λ (p : Text × Text). p.1) (find_key byte_cmp virtual_of old.providers name) (tells.0 t).0,
    λ none. tells.1
        (ap (λ o. option_map (λ (p : Text × Text). p.1) o) none, there),
  ) (ap (λ (g : Content). g.providers) is) k,
  ap (λ (g : Content). g.nodes) is,
  ap (λ (g : Content). g.edges) is,
)

-- ---- names with hashes

-- a hash is taken where its name has none
pub hash_taken : (old new : List (Text × Text)) (x : Text × Text) (added : Bool) → IsInOrder byte_cmp (λ (h : Text × Text). h.0) old
    → IsTrue added ↔ (find_key byte_cmp (λ (h : Text × Text). h.0) old x.0 ≡ None)
    → new ≡ cond added (with_one byte_cmp (λ (h : Text × Text). h.0) old x) old
    → IsInOrder byte_cmp (λ (h : Text × Text). h.0) new × Collected byte_cmp (λ (h : Text × Text). h.0) old x new
hash_taken old new x true order tells is = (
  subst (IsInOrder byte_cmp (λ (h : Text × Text). h.0)) (sym is)
      (in_order-with_one nat_list_cmp_total ties_are_equal (λ (h : Text × Text). h.0) old x order),
  λ rest k. taken nat_list_cmp_total ties_are_equal (λ (h : Text × Text). h.0) old rest x true new tells is k,
)
hash_taken old new x false order tells is = (
  subst (IsInOrder byte_cmp (λ (h : Text × Text). h.0)) (sym is) order,
  λ rest k. taken nat_list_cmp_total ties_are_equal (λ (h : Text × Text). h.0) old rest x false new tells is k,
)

-- ---- nodes stay

-- ends of an edge stay nodes where the nodes stay
pub ends_kept : (old new : Content) (edge made : Edge) → new.nodes ≡ old.nodes → made ≡ edge → HasEnds old edge → HasEnds new made
ends_kept old new edge made nodes same ends = (
  subst (λ (e : Edge). HasNode new e.parent) (sym same) (subst (λ ns. Contains (map name_of ns) edge.parent) (sym nodes) ends.0),
  subst (λ (e : Edge). HasNode new e.child) (sym same) (subst (λ ns. Contains (map name_of ns) edge.child) (sym nodes) ends.1),
)

-- a name stays a node's where the nodes stay
pub node_kept : (old new : Content) (name made : Text) → new.nodes ≡ old.nodes → made ≡ name → HasNode old name → HasNode new made
node_kept old new name made nodes same has = subst (HasNode new) (sym same) (subst (λ ns. Contains (map name_of ns) name) (sym nodes) has)
