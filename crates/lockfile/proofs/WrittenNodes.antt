-- The records that are written for the nodes of a writable graph.
use Rattle.std.proofs.Common.{◌≡◌, refl, sym, ap, subst, ◌∙◌, Bool, true, false, not, Some, None, List, [], ◌∷◌, length, Contains, ◌↔◌, cond, unwrap_or}
use Rattle.std.specs.Cmp.Lexicographic.{bytes_decides, nat_list_cmp_total}
use Rattle.std.specs.Str.{bytes_eq}
use Rattle.std.proofs.lemmas.Option.{none-some}
use Rattle.std.proofs.lemmas.List.Elements.{All-contains}
use Rattle.reachability.proofs.CountLaws.{image_of}
use Rattle.reachability.proofs.SpreadLaws.{from_filter}
use Rattle.keyed_lists.specs.Keyed.{find_key}
use Rattle.keyed_lists.proofs.LookupLaws.{found_iff}
use Rattle.keyed_lists.proofs.RiseLaws.{all_from}
use Rattle.variant_values.proofs.Texts.{ties_are_equal}
use Rattle.spec_grammar.specs.Canonical.{word_text}
use Rattle.spec_grammar.specs.declared.part.Spec.{Spec}
use Rattle.spec_hash.specs.Base32.{base32}
use Rattle.spec_hash.proofs.Letters.{letters_of_base32}
use Rattle.graph_core.specs.Graphs.{Text, Content, HasNode, IsGraph, edges_from, ends_of, name_of, pair_cmp}
use Rattle.graph_core.specs.declared.node.Edge.{Edge}
use Rattle.graph_core.specs.declared.node.Node.{Node}
use Rattle.graph_core.specs.declared.node.Origin.{Origin}
use Rattle.graph_core.specs.declared.node.Origin.TheVariants.{Built, External, Installed}
use Rattle.graph_core.proofs.PairLaws.{pair_exact, pair_total}
use Rattle.record_reader.specs.Texts.{hash_meaning}
use Rattle.reuse_db.specs.Canonical.{right_hash}
use Rattle.reuse_db.specs.Databases.{AreRecords, differing, record_of}
use Rattle.reuse_db.specs.declared.record.Dependency.{Dependency}
use Rattle.reuse_db.specs.declared.record.Record.{Record}
use Rattle.lock_writer.specs.Hashes.{child_of, hash_by, node_hash, node_record, own_record, record_by}
use Rattle.lock_writer.specs.Texts.{IsOfNode}
use Rattle.lock_writer.proofs.HashLaws.{child_there, hash_from_children}
use Rattle.lock_writer.proofs.KnownLaws.{hash_free}
use Rattle.lockfile.specs.Children.{children_by}
use Rattle.lockfile.specs.Locks.{graph_node}
use Rattle.lockfile.specs.Again.{AreVirtuals, Has, HasKind, IsDependency, IsOwn}
use Rattle.lockfile.specs.Formed.{IsFormed, IsFormedNode, locked_root}
use Rattle.lockfile.specs.Writable.{AreDependencies, HasForms, IsAsInstalled, IsWritable, children_in}
use Rattle.json_readers.proofs.Once.{some_one}

-- ---- hashes of records

-- what is spelled in base 32 is a hash
spelled : (bytes : Text) → length (base32 bytes) ≡ 32
unfolding base32
spelled bytes = refl

letters_formed : (bytes : Text) → Has hash_meaning (base32 bytes)
letters_formed bytes = rw (spelled bytes, letters_of_base32 bytes) refl

-- each hash has its form
pub hash_formed : (entry : Record) → Has hash_meaning (right_hash entry)
hash_formed entry = letters_formed _

-- the record with a hash has it
has_hash : (records : List Record) (hash : Text) (entry : Record) → record_of records hash ≡ Some entry → entry.hash ≡ hash
has_hash [] hash entry found = absurd (none-some entry found)
has_hash (r ∷ records) hash entry found = has_hash-cases (bytes_eq r.hash hash) refl found (has_hash records hash entry)
  where
    has_hash-cases : (b : Bool) → bytes_eq r.hash hash ≡ b → cond b (Some r) (record_of records hash) ≡ Some entry
        → (record_of records hash ≡ Some entry → entry.hash ≡ hash) → entry.hash ≡ hash
    has_hash-cases true is e rest = let one : r ≡ entry = cc in ap (λ (x : Record). x.hash) (sym one) ∙ (bytes_decides r.hash hash).0 is
    has_hash-cases false is e rest = rest e

-- where no hash differs, it is that of its text
is_right : (records : List Record) (hash : Text) (entry : Record) → differing records ≡ None → record_of records hash ≡ Some entry
    → entry.hash ≡ right_hash entry
is_right [] hash entry none found = absurd (none-some entry found)
is_right (r ∷ records) hash entry none found =
    is_right-cases (bytes_eq r.hash (right_hash r)) (bytes_eq r.hash hash) refl none found (is_right records hash entry)
  where
    is_right-cases : (b c : Bool) → bytes_eq r.hash (right_hash r) ≡ b → cond (not b) (Some r) (differing records) ≡ None
        → cond c (Some r) (record_of records hash) ≡ Some entry
        → (differing records ≡ None → record_of records hash ≡ Some entry → entry.hash ≡ right_hash entry) → entry.hash ≡ right_hash entry
    is_right-cases true true is n e rest = let one : r ≡ entry = cc in
        subst (λ (x : Record). x.hash ≡ right_hash x) one ((bytes_decides r.hash (right_hash r)).0 is)
    is_right-cases true false is n e rest = rest n e
    is_right-cases false c is n e rest = absurd (none-some r (sym n))

-- the record of a node: it tells the node and its edges, and has the node's hash, which is right
pub record IsWritten (g : Content) (node : Node) (origin : Origin) (entry : Record) : Type 0 where
  pub own : IsOwn origin entry.hash
  pub same : graph_node (record { described = entry; origin = node.origin }) ≡ node
  pub edges : (child : Dependency) → Contains (children_in g node) child ↔ Contains (children_by origin entry.dependencies) child
  pub form : AreDependencies entry.dependencies
  pub hash : entry.hash ≡ node_hash g node.name
  pub right : entry.hash ≡ right_hash entry

-- an edge from a node is one of the graph, and the node is its parent
pub from_node : (g : Content) (name : Text) (e : Edge) → Contains (edges_from g name) e → Contains g.edges e × (e.parent ≡ name)
from_node g name e has =
    let from = from_filter (λ (x : Edge). bytes_eq x.parent name) g.edges e has in
    (from.0, (bytes_decides e.parent name).0 from.1)

module _ (g : Content) (records : List Record) (graph : IsGraph g) (right : AreRecords records) (fit : IsWritable g records) where
  -- ---- hashes of nodes

  hash_is : (node : Node) → Contains g.nodes node → (origin : Origin) → node.origin ≡ origin
      → node_hash g node.name ≡ hash_by origin (right_hash (own_record g (node_hash g) [] node))
  hash_is node has origin is =
      hash_from_children g graph fit.acyclic node.name node
      ((found_iff nat_list_cmp_total ties_are_equal name_of g.nodes node.name node graph.nodes).1 (has, refl))
      ∙ ap (λ o. hash_by o (right_hash (own_record g (node_hash g) [] node))) is

  by_origin : (node : Node) (origin : Origin) (own : Record) → IsAsInstalled g records node origin
      → Has hash_meaning (hash_by origin (right_hash own))
  by_origin node Built own is = hash_formed own
  by_origin node (External entry) own is = hash_formed own
  by_origin node (Installed hash) own is = subst (Has hash_meaning) (sym (is_right records hash is.0 right.same is.1)
      ∙ has_hash records hash is.0 is.1) (hash_formed is.0)

  installed : (node : Node) → Contains g.nodes node → IsAsInstalled g records node node.origin
  installed node has = All-contains (λ (n : Node). IsAsInstalled g records n n.origin) g.nodes node fit.installed has

  -- the hash of a node has its form
  pub name_formed : (name : Text) → HasNode g name → Has hash_meaning (node_hash g name)
  name_formed name has =
      let from = image_of name_of g.nodes name has in
      subst (λ n. Has hash_meaning (node_hash g n)) from.2
      (subst (Has hash_meaning) (sym (hash_is from.0 from.1 from.0.origin refl))
      (by_origin from.0 from.0.origin (own_record g (node_hash g) [] from.0) (installed from.0 from.1)))

  -- names with one hash are one
  pub one_name : (p q : Text) → HasNode g p → HasNode g q → node_hash g p ≡ node_hash g q → p ≡ q
  one_name p q has_p has_q same =
      let a = image_of name_of g.nodes p has_p in
      let b = image_of name_of g.nodes q has_q in
      sym a.2 ∙ ap name_of (fit.apart a.0 b.0 a.1 b.1 (ap (node_hash g) a.2 ∙ same ∙ sym (ap (node_hash g) b.2))) ∙ b.2

  -- ---- the edges of a node

  edge_found : (e : Edge) → Contains g.edges e → find_key pair_cmp ends_of g.edges (ends_of e) ≡ Some e
  edge_found e has = (found_iff pair_total pair_exact ends_of g.edges (ends_of e) e graph.edges).1 (has, refl)

  one_edge : (e f : Edge) → Contains g.edges e → Contains g.edges f → ends_of e ≡ ends_of f → e ≡ f
  one_edge e f has_e has_f same =
      some_one (find_key pair_cmp ends_of g.edges (ends_of f)) e f (ap (find_key pair_cmp ends_of g.edges) (sym same) ∙ edge_found e has_e)
      (edge_found f has_f)

  one_to : (name : Text) (e f : Edge) → Contains (edges_from g name) e → Contains (edges_from g name) f
      → node_hash g e.child ≡ node_hash g f.child → e ≡ f
  one_to name e f has_e has_f same =
      let a = from_node g name e has_e in
      let b = from_node g name f has_f in
      let parents : e.parent ≡ f.parent = a.1 ∙ sym b.1 in
      let children = one_name e.child f.child (child_there g graph name e has_e) (child_there g graph name f has_f) same in
      one_edge e f a.0 b.0 (λ i. (parents i, children i))

  own_formed : (node : Node) → AreDependencies (children_in g node)
  own_formed node = record {
    each = all_from IsDependency (children_in g node) (λ child has.
        let from = image_of (child_of (node_hash g)) (edges_from g node.name) child has in
        subst IsDependency from.2 (record {
          hash = name_formed from.0.child (child_there g graph node.name from.0 from.1);
          kind = All-contains (λ (e : Edge). HasKind e.kinds) g.edges from.0 fit.kinds (from_node g node.name from.0 from.1).0;
          virtuals = All-contains (λ (e : Edge). AreVirtuals e.virtuals) g.edges from.0 fit.named (from_node g node.name from.0 from.1).0;
        }));
    once = λ a b has_a has_b same.
        let x = image_of (child_of (node_hash g)) (edges_from g node.name) a has_a in
        let y = image_of (child_of (node_hash g)) (edges_from g node.name) b has_b in
        sym x.2 ∙ ap (child_of (node_hash g)) (one_to node.name x.0 y.0 x.1 y.1 (ap (λ (d : Dependency). d.hash) x.2 ∙ same
        ∙ sym (ap (λ (d : Dependency). d.hash) y.2))) ∙ y.2;
  }

  -- ---- what is written

  abbrev own_of : Node → Record
  own_of node = own_record g (node_hash g) (node_hash g node.name) node

  is_written_by : (node : Node) → Contains g.nodes node → (origin : Origin) → node.origin ≡ origin → IsAsInstalled g records node origin
      → IsWritten g node origin (record_by records origin (own_of node))
  is_written_by node has Built is fits = record {
    own = tt;
    same = refl;
    edges = λ child. (λ there. there, λ there. there);
    form = own_formed node;
    hash = refl;
    right = hash_is node has Built is ∙ hash_free node [] (node_hash g node.name) (children_in g node);
  }
  is_written_by node has (External entry) is fits = record {
    own = tt;
    same = refl;
    edges = λ child. (λ there. there, λ there. there);
    form = own_formed node;
    hash = refl;
    right = hash_is node has (External entry) is ∙ hash_free node [] (node_hash g node.name) (children_in g node);
  }
  is_written_by node has (Installed hash) is fits =
      let found = has_hash records hash fits.0 fits.1 in
      subst (IsWritten g node (Installed hash)) (sym (ap (λ r. unwrap_or r (own_of node)) fits.1)) (record {
        own = sym found;
        same = fits.2.same;
        edges = fits.2.edges;
        form = fits.2.form;
        hash = found ∙ sym (hash_is node has (Installed hash) is);
        right = is_right records hash fits.0 right.same fits.1;
      })

  -- each node is as its record says
  pub is_written : (node : Node) → Contains g.nodes node → IsWritten g node node.origin (node_record g records node)
  is_written node has = is_written_by node has node.origin refl (installed node has)

  formed : (node : Node) → Contains g.nodes node → IsFormedNode node (node_record g records node)
  formed node has =
      let is = is_written node has in
      let forms = subst HasForms (sym is.same) (All-contains HasForms g.nodes node fit.forms has) in
      record {
        form = record {
          hash = subst (Has hash_meaning) (sym is.right) (hash_formed (node_record g records node));
          name = forms.name;
          version = forms.version;
          os = forms.os;
          target = forms.target;
          compiler = forms.compiler;
          variants = forms.variants;
          variant_order = forms.variant_order;
          dependencies = is.form.each;
        };
        own = is.own;
        name = ap name_of is.same;
      }

  -- all that is written has its form
  pub all_formed : (roots : List Spec) → ((root : Spec) → Contains roots root → IsOfNode g root) → IsFormed g records roots
  all_formed roots named = record {
    nodes = all_from (λ (n : Node). IsFormedNode n (node_record g records n)) g.nodes formed;
    virtuals = fit.virtuals;
    hashes = all_from (λ (root : Spec). Has hash_meaning (locked_root g root).1) roots
        (λ root has. name_formed (word_text root.top.name) (named root has));
  }
