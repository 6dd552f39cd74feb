-- Hashes that are found one after another.
use Rattle.std.proofs.Common.{◌≡◌, ◌≢◌, refl, sym, ap, subst, ◌∙◌, ℕ, zero, suc, ◌+◌, ◌<◌, ◌≤◌, Bool, true, false, List, [], ◌∷◌, length, get_or, set, map, replicate, All, Contains, ◌++◌, take, ⊎_elim, IsTrue, Some, arith}
use Rattle.std.specs.List.{AllZip, list_all}
use Rattle.std.proofs.lemmas.Bool.{and_parts, and_from, cases_eq, false≢true}
use Rattle.std.proofs.lemmas.List.{length-map, length-set, get_or-map, get_or_default, get_or-replicate, length-replicate, take_more, get_or-set_same, get_or-set_other, ext_get_or}
use Rattle.std.specs.Cmp.Lexicographic.{nat_list_cmp_total}
use Rattle.variant_values.proofs.Keys.{lacks_all}
use Rattle.variant_values.proofs.Texts.{ties_are_equal}
use Rattle.reachability.specs.Paths.{IsAcyclic}
use Rattle.reachability.specs.Places.{IsAt}
use Rattle.reachability.proofs.CountLaws.{has_first, has_later, first_or_later}
use Rattle.reachability.proofs.HeadLaws.{zip_push}
use Rattle.keyed_lists.proofs.RiseLaws.{all_from}
use Rattle.keyed_lists.proofs.LookupLaws.{found_iff}
use Rattle.graph_core.specs.Graphs.{Text, Content, IsGraph, HasNode, name_of, node_of, edges_from}
use Rattle.graph_core.specs.Paths.{JoinedIn}
use Rattle.graph_core.specs.declared.node.Edge.{Edge}
use Rattle.graph_core.specs.declared.node.Node.{Node}
use Rattle.graph_core.proofs.PathLaws.{names_once}
use Rattle.reuse_db.specs.Canonical.{canonical, right_hash}
use Rattle.reuse_db.specs.declared.record.Dependency.{Dependency}
use Rattle.lock_writer.specs.Hashes.{hash_over, node_hash, record_of_node}
use Rattle.lock_writer.specs.Known.{names_of, all_hashes, AreChildren, IsHashAt, is_done, AreHashes, waits, DoneBefore, DoneWithin, Keeps}
use Rattle.lock_writer.proofs.HashLaws.{child_there, child_waits, hash_from_children, waits_some, waits_below}

-- what holds of all elements, at a place
pub all_at : {X : Type 0} (P : X → Type 0) (xs : List X) (i : ℕ) (x : X) → All P xs → i < length xs → x ≡ get_or xs i x → P x
all_at P xs i x all lt is = subst P (sym is) (all i x lt)

-- two lists place by place, with one more in each
pub zip_more : {A B : Type 0} (R : A → B → Type 0) (xs : List A) (i : ℕ) (x : A) (ys : List B) (y : B) → i < length xs → x ≡ get_or xs i x
    → AllZip R (take i xs) ys → R x y → AllZip R (take (i + 1) xs) (ys ++ y ∷ [])
zip_more R xs i x ys y lt is so_far here = rw (take_more xs i x lt, ← is) (zip_push R (take i xs) ys x y so_far here)

-- what relates two lists relates what stands at one place of them
pub zip_at : {A B : Type 0} (R : A → B → Type 0) (xs : List A) (ys : List B) (i : ℕ) (d : A) (e : B) → AllZip R xs ys → i < length xs
    → R (get_or xs i d) (get_or ys i e)
zip_at R [] ys i d e all lt = absurd (omega (arith, lt))
zip_at R (x ∷ xs) [] i d e all lt = elim all [ ]
zip_at R (x ∷ xs) (y ∷ ys) zero d e all lt = all.0
zip_at R (x ∷ xs) (y ∷ ys) (suc i) d e all lt = zip_at R xs ys i d e all.1 (omega (arith, lt))

-- the hash that a record has is no part of its text
pub hash_free : (node : Node) (a b : Text) (dependencies : List Dependency)
    → right_hash (record_of_node node a dependencies) ≡ right_hash (record_of_node node b dependencies)
unfolding canonical
hash_free node a b dependencies = refl

module _ (g : Content) where
  -- a node stands at the place of its name
  pub node_at : (place : ℕ) (node : Node) → place < length g.nodes → node ≡ get_or g.nodes place node → IsAt (names_of g) node.name place
  node_at place node lt is = (
    rw (length-map g.nodes name_of) lt,
    get_or-map name_of g.nodes place node node.name lt ∙ ap name_of (sym is),
  )

  -- a name with a place is that of a node
  pub name_there : (name : Text) (place : ℕ) → IsAt (names_of g) name place → HasNode g name
  name_there name place at = (place, at.0, at.1)

  -- what the place of a node tells of it
  pub placed : IsGraph g → (place : ℕ) (node : Node) → place < length g.nodes → node ≡ get_or g.nodes place node
      → IsAt (names_of g) node.name place × (node_of g node.name ≡ Some node)
  placed graph place node lt is = (
    node_at place node lt is,
    (found_iff nat_list_cmp_total ties_are_equal name_of g.nodes node.name node graph.nodes).1
        ((place, lt, sym is), refl),
  )

  -- the places at that of a node are its children's
  pub children_at : (children : List (List ℕ)) (place : ℕ) (node : Node) (places : List ℕ)
      → AllZip (λ node places. AreChildren g (edges_from g node.name) places) g.nodes children
      → place < length g.nodes → node ≡ get_or g.nodes place node → places ≡ get_or children place places
      → AreChildren g (edges_from g node.name) places
  children_at children place node places zip lt is is_places =
      let at = zip_at (λ (n : Node) ps. AreChildren g (edges_from g n.name) ps) g.nodes children place node places zip lt in
      subst (λ (n : Node). AreChildren g (edges_from g n.name) places) (sym is)
      (subst (AreChildren g (edges_from g (get_or g.nodes place node).name)) (sym is_places) at)

  hash_named : (nodes : List Node) (place : ℕ) → place < length nodes
      → node_hash g (get_or (map name_of nodes) place []) ≡ get_or (map (λ (node : Node). node_hash g node.name) nodes) place []
  hash_named [] place lt = absurd (omega (arith, lt))
  hash_named (node ∷ nodes) zero lt = refl
  hash_named (node ∷ nodes) (suc place) lt = hash_named nodes place (omega (arith, lt))

  -- the hash at the place of a name
  pub hash_there : (name : Text) (place : ℕ) → IsAt (names_of g) name place → get_or (all_hashes g) place [] ≡ node_hash g name
  hash_there name place at =
      let lt : place < length g.nodes = rw (← length-map g.nodes name_of) at.0 in
      sym (hash_named g.nodes place lt) ∙ ap (node_hash g) (get_or_default (names_of g) place [] name at.0 ∙ at.1)

  -- the place of a name has a hash
  pub place_within : (hashes : List Text) (name : Text) (place : ℕ) → hashes ≡ all_hashes g → IsAt (names_of g) name place
      → place < length hashes
  place_within hashes name place is at = rw (is, length-map g.nodes (λ (node : Node). node_hash g node.name), ← length-map g.nodes name_of)
      at.0

  -- the hash at the place of a name is the node's
  pub hash_of_place : (hashes : List Text) (name : Text) (place : ℕ) (hash : Text) → hashes ≡ all_hashes g → IsAt (names_of g) name place
      → hash ≡ get_or hashes place hash → hash ≡ node_hash g name
  hash_of_place hashes name place hash is at found =
      let lt = place_within hashes name place is at in
      found ∙ get_or_default hashes place hash [] lt ∙ ap (λ l. get_or l place []) is ∙ hash_there name place at

  -- there are as many hashes as nodes
  pub hashes_long : (hashes : List Text) → hashes ≡ all_hashes g → length hashes ≡ length g.nodes
  hashes_long hashes is = ap length is ∙ length-map g.nodes (λ (node : Node). node_hash g node.name)

  -- each edge leads to a node whose hash stands at its place
  pub all_hashed : (hashes : List Text) (edges : List Edge) → hashes ≡ all_hashes g → All (λ edge. IsHashAt g hashes edge.child) edges
  all_hashed hashes edges is = all_from (λ (e : Edge). IsHashAt g hashes e.child) edges (λ e has place at. ap (λ l. get_or l place []) is
      ∙ hash_there e.child place at)

  -- each edge from a name leads to a node
  pub all_there : IsGraph g → (name : Text) → All (λ edge. HasNode g edge.child) (edges_from g name)
  all_there graph name = all_from (λ (e : Edge). HasNode g e.child) (edges_from g name) (child_there g graph name)

  -- ---- before the first round, and behind the last

  -- before the first round nothing is told of hashes
  pub start_right : (hashes : List Text) (done : List Bool) (places : ℕ) → places ≡ length g.nodes → length hashes ≡ places
      → done ≡ replicate places false → AreHashes g hashes done
  start_right hashes done places count each is = record {
    each = each ∙ count;
    marks = ap length is ∙ length-replicate places false ∙ count;
    right = λ name place at told.
        let lt : place < places = omega (arith, at.0, length-map g.nodes name_of, count) in
        let no : is_done done place ≡ false = ap (λ d. is_done d place) is ∙ get_or-replicate places place false false lt in
        absurd (false≢true (sym no ∙ told));
  }

  -- where all is done all hashes are right
  pub all_right : (hashes : List Text) (done : List Bool) → AreHashes g hashes done
      → ((place : ℕ) → place < length g.nodes → IsTrue (is_done done place)) → hashes ≡ all_hashes g
  all_right hashes done are all =
      ext_get_or [] hashes (all_hashes g) (are.each ∙ sym (length-map g.nodes (λ (node : Node). node_hash g node.name))) (λ place lt.
      let lt_nodes : place < length g.nodes = rw (← are.each) lt in
      let name = get_or (names_of g) place [] in
      let lt_names : place < length (names_of g) = rw (length-map g.nodes name_of) lt_nodes in
      let at : IsAt (names_of g) name place = (lt_names, get_or_default (names_of g) place name [] lt_names) in
      are.right name place at (all place lt_nodes) ∙ hash_named g.nodes place lt_nodes)

  -- where all children are done
  pub all_done : (edges : List Edge) (places : List ℕ) (done : List Bool) → AreChildren g edges places
      → ((e : Edge) (p : ℕ) → Contains edges e → IsAt (names_of g) e.child p → IsTrue (is_done done p))
      → list_all (is_done done) places ≡ true
  all_done [] [] done children told = refl
  all_done [] (q ∷ qs) done children told = elim children [ ]
  all_done (x ∷ xs) [] done children told = elim children [ ]
  all_done (x ∷ xs) (q ∷ qs) done children told =
      and_from _ _ (told x q (has_first x xs) children.0) (all_done xs qs done children.1 (λ e p has. told e p (has_later x xs e has)))

  module _ (graph : IsGraph g) (hashes : List Text) (done : List Bool) (are : AreHashes g hashes done) where
    -- ---- children

    -- a child's hash is right where all children are done
    pub child_known : (edges : List Edge) (places : List ℕ) → AreChildren g edges places → list_all (is_done done) places ≡ true
        → (e : Edge) → Contains edges e → IsHashAt g hashes e.child
    child_known [] places children all e has = absurd (lacks_all e has)
    child_known (x ∷ xs) [] children all e has = elim children [ ]
    child_known (x ∷ xs) (p ∷ ps) children all e has =
        let parts = and_parts _ _ all in
        ⊎_elim
        (λ same. subst (λ (y : Edge). IsHashAt g hashes y.child) same (λ place at.
        let is : place ≡ p = names_once g graph x.child place p at children.0 in
        subst (λ k. get_or hashes k [] ≡ node_hash g x.child) (sym is) (are.right x.child p children.0 parts.0)))
        (λ later. child_known xs ps children.1 parts.1 e later)
        (first_or_later x xs e has)

    -- the children's hashes are right where all of them are done
    pub children_known : (edges : List Edge) (places : List ℕ) → AreChildren g edges places → list_all (is_done done) places ≡ true
        → All (λ edge. IsHashAt g hashes edge.child) edges
    children_known edges places children all =
        all_from (λ (edge : Edge). IsHashAt g hashes edge.child) edges (child_known edges places children all)

    child_within : (edges : List Edge) (places : List ℕ) → AreChildren g edges places → (p : ℕ) → Contains places p → p < length done
    child_within [] [] children p has = absurd (lacks_all p has)
    child_within [] (q ∷ qs) children p has = elim children [ ]
    child_within (x ∷ xs) [] children p has = elim children [ ]
    child_within (x ∷ xs) (q ∷ qs) children p has = ⊎_elim
        (λ same. subst (λ n. n < length done) same (omega (arith, children.0.0, length-map g.nodes name_of, are.marks)))
        (λ later. child_within xs qs children.1 p later)
        (first_or_later q qs p has)

    -- the places of children have a mark
    pub children_within : (edges : List Edge) (places : List ℕ) → AreChildren g edges places → All (λ place. place < length done) places
    children_within edges places children = all_from (λ p. p < length done) places (child_within edges places children)

    -- ---- one hash more

    -- one hash more is right
    pub one_more : IsAcyclic (JoinedIn g) → (place : ℕ) (node : Node) (hash : Text) → IsAt (names_of g) node.name place
        → node_of g node.name ≡ Some node
        → hash ≡ hash_over g (node_hash g) node → AreHashes g (set hashes place hash) (set done place true)
    one_more acyclic place node hash there found made = record {
      each = length-set hashes place hash ∙ are.each;
      marks = length-set done place true ∙ are.marks;
      right = λ name q at told. ⊎_elim
          (λ (same : q ≡ place).
          let named : node.name ≡ name = sym there.1 ∙ get_or_default (names_of g) place node.name name there.0
          ∙ ap (λ k. get_or (names_of g) k name) (sym same) ∙ at.1 in
          rw same (get_or-set_same hashes place hash [] (omega (arith, there.0, length-map g.nodes name_of, are.each))) ∙ made
          ∙ sym (hash_from_children g graph acyclic node.name node found) ∙ ap (node_hash g) named)
          (λ (other : q ≢ place).
          get_or-set_other hashes place q hash [] other ∙ are.right name q at (sym (get_or-set_other done place q true false other) ∙ told))
          (cases_eq q place);
    }

    -- a place has a hash and a mark
    pub place_there : (name : Text) (place : ℕ) → IsAt (names_of g) name place → (place < length hashes) × (place < length done)
    place_there name place there =
        (omega (arith, there.0, length-map g.nodes name_of, are.each), omega (arith, there.0, length-map g.nodes name_of, are.marks))

  -- what is done stays done
  pub kept_all : (done : List Bool) → Keeps done done
  kept_all done q told = told

  -- a place that was marked is done
  pub done_there : (done : List Bool) (place : ℕ) → place < length done → IsTrue (is_done (set done place true) place)
  done_there done place lt = get_or-set_same done place true false lt

  -- a place that is marked more keeps what is done
  pub kept_more : (done : List Bool) (place : ℕ) → place < length done → Keeps done (set done place true)
  kept_more done place lt q told = ⊎_elim
      (λ (same : q ≡ place). rw same (get_or-set_same done place true false lt))
      (λ (other : q ≢ place). get_or-set_other done place q true false other ∙ told)
      (cases_eq q place)

-- ---- rounds

module _ (g : Content) (graph : IsGraph g) (acyclic : IsAcyclic (JoinedIn g)) where
  -- within no rounds nothing needs to be done
  pub none_waits : (done : List Bool) → DoneWithin g 0 done
  none_waits done name place at waits lt = absurd (waits_some g graph acyclic name (name_there g name place at) waits)

  -- within as many rounds as there are nodes all is done
  pub all_within : (done : List Bool) (places rounds : ℕ) → places ≡ length g.nodes → places ≤ rounds → DoneWithin g rounds done
      → (place : ℕ) → place < length g.nodes → IsTrue (is_done done place)
  all_within done places rounds count enough within place lt =
      let name = get_or (names_of g) place [] in
      let lt_names : place < length (names_of g) = rw (length-map g.nodes name_of) lt in
      let at : IsAt (names_of g) name place = (lt_names, get_or_default (names_of g) place name [] lt_names) in
      let few = waits_below g name in
      within name place at (omega (arith, few, count, enough)) lt

  -- the node at the end of those that were seen in this round
  pub one_further : (old done new : List Bool) (end rounds : ℕ) (node : Node) (places : List ℕ) → IsAt (names_of g) node.name end
      → AreChildren g (edges_from g node.name) places → DoneWithin g rounds old → Keeps old done → Keeps done new
      → (IsTrue (list_all (is_done done) places) → IsTrue (is_done new end))
      → DoneBefore g end (rounds + 1) done → DoneBefore g (end + 1) (rounds + 1) new
  one_further old done new end rounds node places there children within kept keeps found before name place at waits less = ⊎_elim
      (λ (same : place ≡ end).
      let named : node.name ≡ name = sym there.1 ∙ get_or_default (names_of g) end node.name name there.0
      ∙ ap (λ k. get_or (names_of g) k name) (sym same) ∙ at.1 in
      subst (λ p. IsTrue (is_done new p)) (sym same) (found (all_done g (edges_from g node.name) places done children (λ e p has at_child.
      let from : Contains (edges_from g name) e = subst (λ n. Contains (edges_from g n) e) named has in
      let less_child = child_waits g graph acyclic name e from in
      kept p (within e.child p at_child (omega (arith, less_child, waits)) (rw (← length-map g.nodes name_of) at_child.0))))))
      (λ (other : place ≢ end). keeps place (before name place at waits (omega (arith, less, other))))
      (cases_eq place end)
