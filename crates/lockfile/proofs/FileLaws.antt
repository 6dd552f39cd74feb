-- A file, written and read.
use Rattle.std.proofs.Common.{◌≡◌, refl, sym, ap, subst, ◌∙◌, ℕ, ◌+◌, true, Ok, List, [], ◌∷◌, map, All, Contains, ◌⊎◌, inl, inr, ⊎_elim}
use Rattle.std.specs.List.{list_any}
use Rattle.std.specs.Cmp.Lexicographic.{bytes_decides}
use Rattle.std.specs.Str.{bytes_eq}
use Rattle.std.proofs.lemmas.List.Elements.{All-contains}
use Rattle.reachability.proofs.CountLaws.{first_or_later, has_first, has_later}
use Rattle.reachability.proofs.SpreadLaws.{among_decides}
use Rattle.variant_values.specs.Texts.{with_text, with_texts}
use Rattle.variant_values.proofs.Keys.{lacks_all}
use Rattle.variant_values.proofs.Texts.{adds_text}
use Rattle.serde_json.specs.Data.{Data, string, array, object}
use Rattle.serde_json.specs.View.{items_of}
use Rattle.json_readers.specs.Faults.{Reading}
use Rattle.json_readers.specs.Lists.{items_from, list_of}
use Rattle.json_readers.specs.Maps.{map_of}
use Rattle.json_readers.specs.Texts.{text_of}
use Rattle.spec_grammar.specs.declared.part.Spec.{Spec}
use Rattle.json_texts.specs.Forms.{name_meaning}
use Rattle.graph_core.specs.Graphs.{Text, Content, HasNode, IsGraph, name_of, virtual_of}
use Rattle.graph_core.specs.declared.node.Node.{Node}
use Rattle.record_reader.specs.Texts.{hash_meaning}
use Rattle.reuse_db.specs.declared.record.Record.{Record}
use Rattle.lock_writer.specs.Hashes.{node_record}
use Rattle.lock_writer.specs.Texts.{data_of_node, lock_data, provider_members, root_data}
use Rattle.lockfile.specs.Again.{Has}
use Rattle.lockfile.specs.Files.{node_among, file_at, node_names, node_at, root_at, roots_at}
use Rattle.serde_json.specs.Read.{read}
use Rattle.json_readers.specs.Json.{IsJson}
use Rattle.lockfile.specs.Locks.{IsLock, IsLockOf}
use Rattle.lockfile.specs.declared.lock.Lock.{Lock}
use Rattle.lockfile.specs.Formed.{IsFormed, IsFormedNode, locked, locked_file, locked_root}
use Rattle.json_readers.proofs.Once.{some_one}
use Rattle.lockfile.proofs.NodeLaws.{node_again}
use Rattle.lockfile.proofs.WrittenLaws.{entries_again, written}

items_mapped : {X Y : Type 0} (read : Data → Reading Y) (f : X → Data) (h : X → Y) (i : ℕ) (xs : List X)
    → ((x : X) → Contains xs x → read (f x) ≡ Ok (h x)) → items_from read i (items_of (map f xs)) ≡ Ok (map h xs)
items_mapped read f h i [] each = refl
items_mapped read f h i (x ∷ xs) each =
    rw (each x (has_first x xs), items_mapped read f h (i + 1) xs (λ y has. each y (has_later x xs y has))) refl

-- ---- nodes

nodes_again : (g : Content) (records : List Record) → All (λ node. IsFormedNode node (node_record g records node)) g.nodes
    → list_of (node_at true) (array (items_of (map (data_of_node g records) g.nodes))) ≡ Ok (map (locked g records) g.nodes)
nodes_again g records fit = items_mapped (node_at true) (data_of_node g records) (locked g records) 0 g.nodes (λ node has.
    let is = All-contains (λ (n : Node). IsFormedNode n (node_record g records n)) g.nodes node fit has in
    node_again (node_record g records node) node.origin is.form is.own)

-- the names in the file are those of the nodes
pub names_same : (g : Content) (records : List Record) (nodes : List Node)
    → ((node : Node) → Contains nodes node → (node_record g records node).name ≡ node.name)
    → node_names (map (locked g records) nodes) ≡ map name_of nodes
names_same g records [] each = refl
names_same g records (node ∷ nodes) each =
    rw (each node (has_first node nodes), names_same g records nodes (λ n has. each n (has_later node nodes n has))) refl

-- ---- providers

in_set : (kept words : List Text) (q : Text) → Contains kept q ⊎ Contains words q → Contains (with_texts kept words) q
unfolding with_texts
in_set kept [] q has = ⊎_elim (λ old. old) (λ none. absurd (lacks_all q none)) has
in_set kept (word ∷ words) q has = in_set (with_text kept word) words q (⊎_elim
    (λ old. inl ((adds_text kept word q).1 (inr old)))
    (λ new. ⊎_elim (λ same. inl ((adds_text kept word q).1 (inl (sym same)))) (λ later. inr later) (first_or_later word words q new))
    has)

among_again : (names : List Text) (q : Text) → Contains names q → text_of (node_among (with_texts [] names)) (string q) ≡ Ok q
among_again names q has =
    let there : list_any (bytes_eq q) (with_texts [] names) ≡ true =
    (among_decides bytes_eq bytes_decides (with_texts [] names) q).1 (in_set [] names q (inr has)) in
    rw there refl

providers_again : (g : Content) (names : List Text) → IsGraph g → names ≡ map name_of g.nodes
    → All (λ (p : Text × Text). Has name_meaning p.0) g.providers
    → map_of name_meaning (text_of (node_among (with_texts [] names))) (object (provider_members g.providers)) ≡ Ok g.providers
providers_again g names graph is virtuals =
    rw (written virtual_of (λ (p : Text × Text). string p.1) g.providers graph.providers)
    (entries_again (λ (p : Text × Text). string p.1) name_meaning (text_of (node_among (with_texts [] names))) g.providers (λ p has. (
      All-contains (λ (p : Text × Text). Has name_meaning p.0) g.providers p virtuals has,
      among_again names p.1 (subst (λ ns. Contains ns p.1) (sym is)
          (All-contains (λ (p : Text × Text). HasNode g p.1) g.providers p graph.packages has)),
    )))

-- ---- roots

root_again : (g : Content) (root : Spec) → Has hash_meaning (locked_root g root).1 → root_at (root_data g root) ≡ Ok (locked_root g root)
unfolding root_at
root_again g root is = rw is refl

roots_again : (g : Content) (roots : List Spec) → All (λ (root : Spec). Has hash_meaning (locked_root g root).1) roots
    → list_of root_at (array (items_of (map (root_data g) roots))) ≡ Ok (map (locked_root g) roots)
roots_again g roots fit = items_mapped root_at (root_data g) (locked_root g) 0 roots
    (λ root has. root_again g root (All-contains (λ (root : Spec). Has hash_meaning (locked_root g root).1) roots root fit has))

-- ---- the whole

-- the value that is written is read as the locked file
pub file_again : (g : Content) (records : List Record) (roots : List Spec) → IsGraph g → IsFormed g records roots
    → file_at (lock_data g records roots) ≡ Ok (locked_file g records roots)
unfolding file_at roots_at lock_data
file_again g records roots graph fit =
    let named = names_same g records g.nodes (λ node has.
    (All-contains (λ (n : Node). IsFormedNode n (node_record g records n)) g.nodes node fit.nodes has).name) in
    rw (
      nodes_again g records fit.nodes,
      providers_again g (node_names (map (locked g records) g.nodes)) graph named fit.virtuals,
      roots_again
          g roots fit.hashes,
    ) refl

same_ok : {X : Type 0} (r : Reading X) (x y : X) → r ≡ Ok x → r ≡ Ok y → x ≡ y
same_ok r x y a b = let both : Ok x ≡ Ok y = sym a ∙ b in cc

-- a text of the value is read as what that value says
pub text_again : (g : Content) (records : List Record) (roots : List Spec) → IsGraph g → IsFormed g records roots → (text : List ℕ)
    → IsJson text (lock_data g records roots) → (lock : Lock) → IsLock text lock
    → IsLockOf (locked_file g records roots) lock
text_again g records roots graph fit text json lock is =
    let value = some_one (read text) is.0 (lock_data g records roots) is.1.1 json.1 in
    let file = same_ok (file_at is.0) is.2.0 (locked_file g records roots) is.2.1 (ap file_at value
    ∙ file_again g records roots graph fit) in
    subst (λ f. IsLockOf f lock) file is.2.2
