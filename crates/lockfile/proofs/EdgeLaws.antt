-- The edges of a file: their ends are nodes.
use Rattle.std.proofs.Common.{◌≡◌, refl, sym, ap, subst, ◌∙◌, ℕ, ◌+◌, ◌<◌, Bool, true, false, cond, Option, Some, None, List, [], ◌∷◌, length, get_or, drop, map, All, Contains, ⊎_elim, String, find}
use Rattle.std.specs.Option.{option_map, is_some}
use Rattle.std.specs.BTreeMap.{BTreeMap, get_by_text}
use Rattle.std.specs.Map.{update}
use Rattle.std.specs.Str.{bytes_eq}
use Rattle.std.specs.declared.alloc.Global.{Global}
use Rattle.std.specs.Cmp.Lexicographic.{nat_list_cmp_total}
use Rattle.std.proofs.lemmas.Option.{none-some}
use Rattle.std.proofs.lemmas.List.{drop_more}
use Rattle.std.proofs.lemmas.List.Elements.{Contains-append_cases}
use Rattle.variant_values.specs.Texts.{byte_cmp}
use Rattle.variant_values.proofs.Keys.{lacks_all}
use Rattle.variant_values.proofs.Texts.{ties_are_equal}
use Rattle.reachability.proofs.CountLaws.{has_first, has_later}
use Rattle.keyed_lists.specs.Keyed.{find_key}
use Rattle.keyed_lists.proofs.GivenLaws.{given_at}
use Rattle.keyed_lists.proofs.KeyedLaws.{find_known}
use Rattle.keyed_lists.proofs.RiseLaws.{all_from}
use Rattle.graph_core.specs.Graphs.{Text, Content, HasNode, name_of, node_of}
use Rattle.graph_core.specs.declared.node.Edge.{Edge}
use Rattle.graph_core.proofs.GraphLaws.{has_decides}
use Rattle.reuse_db.specs.declared.record.Dependency.{Dependency}
use Rattle.lockfile.specs.Children.{all_edges, locked_children, locked_edge, edges_of, named_by}
use Rattle.lockfile.specs.Files.{AreProvided, node_names}
use Rattle.lockfile.specs.Locks.{graph_nodes}
use Rattle.lockfile.specs.Named.{AreNames, HasEnds}
use Rattle.lockfile.specs.declared.file.File.{File}
use Rattle.lockfile.specs.declared.node.LockedNode.{LockedNode}

-- ---- names by hashes

-- what is named is one of the names
pub named_there : (nodes : List LockedNode) (hash name : Text) → named_by nodes hash ≡ Some name → Contains (node_names nodes) name
named_there [] hash name e = absurd (none-some name e)
named_there (node ∷ nodes) hash name e = named_there-cases (bytes_eq node.described.hash hash) e (named_there nodes hash name)
  where
    named_there-cases : (b : Bool) → option_map (λ (n : LockedNode). n.described.name)
        (cond b (Some node) (find (λ (n : LockedNode). bytes_eq n.described.hash hash) nodes)) ≡ Some name
        → (named_by nodes hash ≡ Some name → Contains (node_names nodes) name) → Contains (node.described.name ∷ node_names nodes) name
    named_there-cases true e rest =
        let same : node.described.name ≡ name = cc in
        subst (Contains (node.described.name ∷ node_names nodes)) same (has_first node.described.name (node_names nodes))
    named_there-cases false e rest = has_later node.described.name (node_names nodes) name (rest e)

-- what is left of a list, one element further on
pub drop_one : {X : Type 0} (xs : List X) (i : ℕ) (x : X) → i < length xs → x ≡ get_or xs i x → drop i xs ≡ x ∷ drop (i + 1) xs
drop_one xs i x lt is = drop_more xs i x lt ∙ ap (λ y. y ∷ drop (i + 1) xs) (sym is)

one_named : (node : LockedNode) (nodes : List LockedNode) (q : Text) (old : Option Text) → old ≡ named_by nodes q
    → cond (bytes_eq node.described.hash q) (Some node.described.name) old ≡ named_by (node ∷ nodes) q
one_named node nodes q old is = one_named-cases (bytes_eq node.described.hash q)
  where
    one_named-cases : (b : Bool) → cond b (Some node.described.name) old ≡ option_map (λ (n : LockedNode). n.described.name)
        (cond b (Some node) (find (λ (n : LockedNode). bytes_eq n.described.hash q) nodes))
    one_named-cases true = refl
    one_named-cases false = is

-- one node more, before those whose names are there
pub names_more : (nodes : List LockedNode) (i : ℕ) (node : LockedNode) (old new : BTreeMap (String Global) Text) → i < length nodes
    → node ≡ get_or nodes i node
    → AreNames (drop (i + 1) nodes) old → ((q : Text)
    → get_by_text new q ≡ update bytes_eq (get_by_text old) node.described.hash (Some node.described.name) q) → AreNames (drop i nodes) new
names_more nodes i node old new lt is names updates q =
    rw (drop_one nodes i node lt is) (updates q ∙ one_named node (drop (i + 1) nodes) q (get_by_text old q) (names q))

-- ---- edges

edge_ends : (nodes : List LockedNode) (parent : Text) (d : Dependency) (child : Option Text) (e : Edge)
    → ((name : Text) → child ≡ Some name → Contains (node_names nodes) name) → locked_edge parent d child ≡ Some e
    → (parent ≡ e.parent) × Contains (node_names nodes) e.child
edge_ends nodes parent d None e there is = absurd (none-some e is)
edge_ends nodes parent d (Some name) e there is =
    let same : record { parent = parent; child = name; kinds = d.kinds; virtuals = d.virtuals } ≡ e = cc in
    (ap (λ (x : Edge). x.parent) same, subst (Contains (node_names nodes)) (ap (λ (x : Edge). x.child) same) (there name refl))

from_node : (nodes : List LockedNode) (node : LockedNode) (e : Edge) → Contains (edges_of nodes node) e → (node.described.name ≡ e.parent)
    × Contains (node_names nodes) e.child
from_node nodes node e has =
    let made = given_at (λ (d : Dependency). locked_edge node.described.name d (named_by nodes d.hash)) (locked_children node) e has in
    edge_ends nodes node.described.name made.0 (named_by nodes made.0.hash) e (named_there nodes made.0.hash) made.2

-- the ends of each edge are names of nodes
pub ends_named : (nodes from : List LockedNode) (e : Edge) → Contains (all_edges nodes from) e → Contains (node_names from) e.parent
    × Contains (node_names nodes) e.child
ends_named nodes [] e has = absurd (lacks_all e has)
ends_named nodes (node ∷ from) e has = ⊎_elim
    (λ here. let ends = from_node nodes node e here in
    (subst (Contains (node.described.name ∷ node_names from)) ends.0 (has_first node.described.name (node_names from)), ends.1))
    (λ later. let ends = ends_named nodes from e later in (has_later node.described.name (node_names from) e.parent ends.0, ends.1))
    (Contains-append_cases (edges_of nodes node) (all_edges nodes from) e has)

names_as_nodes : (nodes : List LockedNode) → node_names nodes ≡ map name_of (graph_nodes nodes)
names_as_nodes [] = refl
names_as_nodes (node ∷ nodes) = ap (λ names. node.described.name ∷ names) (names_as_nodes nodes)

-- a graph with these nodes has each of their names
pub has_name : (nodes : List LockedNode) (g : Content)
    → ((name : Text) → node_of g name ≡ find_key byte_cmp name_of (graph_nodes nodes) name) → (name : Text)
    → Contains (node_names nodes) name
    → HasNode g name
has_name nodes g same name has =
    let known = find_known nat_list_cmp_total ties_are_equal name_of (graph_nodes nodes) name
    (subst (λ names. Contains names name) (names_as_nodes nodes) has) in
    (has_decides g name).0 (ap is_some (same name ∙ known.1))

-- the edges of all nodes have their ends
pub all_ends : (nodes : List LockedNode) (g : Content)
    → ((name : Text) → node_of g name ≡ find_key byte_cmp name_of (graph_nodes nodes) name) → All (HasEnds g) (all_edges nodes nodes)
all_ends nodes g same = all_from (HasEnds g) (all_edges nodes nodes) (λ e has.
    let ends = ends_named nodes nodes e has in
    (has_name nodes g same e.parent ends.0, has_name nodes g same e.child ends.1))

-- so have these edges where they are those
pub given_ends : (nodes : List LockedNode) (g : Content) (edges made : List Edge) → edges ≡ made → made ≡ all_edges nodes nodes
    → ((name : Text) → node_of g name ≡ find_key byte_cmp name_of (graph_nodes nodes) name) → All (HasEnds g) edges
given_ends nodes g edges made given is same = subst (All (HasEnds g)) (sym (given ∙ is)) (all_ends nodes g same)

-- what provides is a node
pub provided_there : (nodes : List LockedNode) (g new : Content) (file : File) (providers : List (Text × Text)) → nodes ≡ file.nodes
    → ((name : Text) → node_of g name ≡ find_key byte_cmp name_of (graph_nodes nodes) name) → new.nodes ≡ g.nodes
    → providers ≡ file.providers → AreProvided file → All (λ (provider : Text × Text). HasNode new provider.1) providers
provided_there nodes g new file providers is same kept given provided =
    subst (All (λ (provider : Text × Text). HasNode new provider.1)) (sym given)
    (λ k d lt.
    let name = (get_or file.providers k d).1 in
    subst (λ ns. Contains (map name_of ns) name) (sym kept)
    (has_name nodes g same name (subst (λ ns. Contains (node_names ns) name) (sym is) (provided k d lt))))
