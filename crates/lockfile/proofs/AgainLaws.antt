-- A writable graph is read again as itself.
use Rattle.std.proofs.Common.{◌≡◌, refl, sym, ap, List, [], ◌∷◌, ℕ, map, Contains}
use Rattle.std.proofs.lemmas.List.Elements.{All-contains}
use Rattle.reachability.proofs.CountLaws.{has_first, has_later}
use Rattle.keyed_lists.specs.Keyed.{find_key}
use Rattle.variant_values.specs.Texts.{byte_cmp}
use Rattle.spec_grammar.specs.declared.part.Spec.{Spec}
use Rattle.json_readers.specs.Json.{IsJson}
use Rattle.graph_core.specs.Graphs.{Text, Content, IsGraph, ends_of, name_of}
use Rattle.graph_core.specs.declared.node.Node.{Node}
use Rattle.graph_core.proofs.PairLaws.{pair_exact, pair_total}
use Rattle.reuse_db.specs.Databases.{AreRecords}
use Rattle.reuse_db.specs.declared.record.Record.{Record}
use Rattle.lock_writer.specs.Hashes.{node_hash, node_record}
use Rattle.lock_writer.specs.Texts.{CanBeWritten, IsOfNode, lock_data}
use Rattle.lockfile.specs.Children.{all_edges}
use Rattle.lockfile.specs.Locks.{IsLock, IsLockOf, named_hashes}
use Rattle.lockfile.specs.Formed.{locked, locked_file}
use Rattle.lockfile.specs.Writable.{IsWritable, hashes_in, lock_of}
use Rattle.lockfile.proofs.FileLaws.{file_again}
use Rattle.lockfile.proofs.Lists.{find_alike}
use Rattle.lockfile.proofs.SameLaws.{same_nodes}
use Rattle.lockfile.proofs.SoundLaws.{edge_of_graph, edge_read, is_sound}
use Rattle.lockfile.proofs.WrittenNodes.{all_formed, is_written}

hash_names : (g : Content) (nodes : List Node) → map (λ (h : Text × Text). h.0) (hashes_in g nodes) ≡ map name_of nodes
hash_names g [] = refl
hash_names g (node ∷ nodes) = ap (λ names. node.name ∷ names) (hash_names g nodes)

same_hashes : (g : Content) (records : List Record) (nodes : List Node)
    → ((node : Node) → Contains nodes node → ((node_record g records node).name ≡ node.name)
    × ((node_record g records node).hash ≡ node_hash g node.name))
    → named_hashes (map (locked g records) nodes) ≡ hashes_in g nodes
same_hashes g records [] each = refl
same_hashes g records (node ∷ nodes) each =
    let here = each node (has_first node nodes) in
    rw (here.0, here.1, same_hashes g records nodes (λ n has. each n (has_later node nodes n has))) refl

module _ (g : Content) (records : List Record) (roots : List Spec) (graph : IsGraph g) (right : AreRecords records)
    (can : CanBeWritten g records roots) (fit : IsWritable g records) where
  known : (root : Spec) → Contains roots root → IsOfNode g root
  known root has = All-contains (IsOfNode g) roots root can.named has

  same_lock : IsLockOf (locked_file g records roots) (lock_of g roots)
  same_lock =
      let written = is_written g records graph right fit in
      let nodes = map (locked g records) g.nodes in
      record {
        sound = is_sound g records graph right fit roots known;
        graph = record {
          whole = graph;
          nodes = λ name. ap (λ ns. find_key byte_cmp name_of ns name)
              (sym (same_nodes g records g.nodes (λ node has. (written node has).same)));
          edges = find_alike pair_total pair_exact ends_of (all_edges nodes nodes) g.edges graph.edges
              (edge_of_graph g records graph right fit) (edge_read g records graph right fit);
          providers = λ name. refl;
        };
        roots = refl;
        version = refl;
        hashes = record {
          order = rw (hash_names g g.nodes) graph.nodes;
          found = λ name. ap (λ hs. find_key byte_cmp (λ (h : Text × Text). h.0) hs name)
              (sym (same_hashes g records g.nodes (λ node has. (ap name_of (written node has).same, (written node has).hash))));
        };
      }

  -- each text of the value is that of the graph
  pub text_is_lock : (text : List ℕ) → IsJson text (lock_data g records roots) → IsLock text (lock_of g roots)
  text_is_lock text json = (
    lock_data g records roots,
    json,
    (
      locked_file g records roots,
      file_again g records roots graph
          (all_formed g records graph right fit roots known),
      same_lock,
    ),
  )
