-- Lock files.
use Rattle.std.proofs.Common.{◌≡◌, ◌≢◌, refl, ◌⊎◌, inl, inr, ℕ, List, [], Option, Some, None, Result, Ok, Err, All, Contains}
use Rattle.std.specs.Cmp.Lexicographic.{nat_list_cmp_total}
use Rattle.std.proofs.lemmas.List.Elements.{All-nil, All-weaker}
use Rattle.serde_json.specs.Data.{Data}
use Rattle.variant_values.specs.Texts.{byte_cmp}
use Rattle.variant_values.proofs.Texts.{ties_are_equal}
use Rattle.keyed_lists.specs.Keyed.{find_key}
use Rattle.keyed_lists.proofs.RiseLaws.{rises_none}
use Rattle.graph_core.specs.Graphs.{Text, Content, HasNode, IsGraph, node_of, name_of, ends_of, virtual_of, pair_cmp}
use Rattle.graph_core.specs.declared.node.Edge.{Edge}
use Rattle.graph_core.proofs.PairLaws.{pair_total, pair_exact}
use Rattle.json_readers.specs.Json.{IsJson}
use Rattle.json_readers.specs.declared.fault.Misfit.{Misfit}
use Rattle.reuse_db.specs.Canonical.{right_hash}
use Rattle.reuse_db.specs.declared.record.Record.{Record}
use Rattle.lockfile.specs.Children.{all_edges}
use Rattle.lockfile.specs.Faults.{IsLockFault, dangling_in_file, twice_named, wrongly_hashed}
use Rattle.lockfile.specs.Files.{AreProvided, file_at, node_names}
use Rattle.lockfile.specs.Locks.{AreHashesOf, IsGraphOf, IsLock, graph_nodes, named_hashes}
use Rattle.lockfile.specs.Named.{HasEnds}
use Rattle.lockfile.specs.declared.fault.LockFault.{LockFault}
use Rattle.lockfile.specs.declared.fault.LockFault.TheVariants as fault
use Rattle.lockfile.specs.declared.file.File.{File}
use Rattle.lockfile.specs.declared.lock.Lock.{Lock}
use Rattle.lockfile.proofs.EdgeLaws.{all_ends, has_name}
use Rattle.lockfile.proofs.ReadLaws.{provided}
use Rattle.total_readings.proofs.Gathered.{all_gathered, gathered, gathered_found, gathered_in_order}
use Rattle.total_readings.proofs.Jsons.{json_or_none}

-- ---- the graph of a file

module _ (file : File) where
  abbrev graph_in : Content
  graph_in = record {
    nodes = gathered byte_cmp name_of [] (graph_nodes file.nodes);
    edges = gathered pair_cmp ends_of [] (all_edges file.nodes file.nodes);
    providers = gathered byte_cmp virtual_of [] file.providers;
  }

  node_found : (name : Text) → node_of graph_in name ≡ find_key byte_cmp name_of (graph_nodes file.nodes) name
  node_found name = gathered_found nat_list_cmp_total ties_are_equal name_of [] (graph_nodes file.nodes) name

  whole : AreProvided file → IsGraph graph_in
  whole provides =
      let ends : All (HasEnds graph_in) graph_in.edges =
      all_gathered pair_total pair_exact ends_of (HasEnds graph_in) [] (all_edges file.nodes file.nodes) (All-nil (HasEnds graph_in))
      (all_ends file.nodes graph_in node_found) in
      let by = λ (provider : Text × Text). HasNode graph_in provider.1 in
      record {
        nodes = gathered_in_order nat_list_cmp_total ties_are_equal name_of [] (graph_nodes file.nodes) (rises_none byte_cmp);
        edges = gathered_in_order pair_total pair_exact ends_of [] (all_edges file.nodes file.nodes) (rises_none pair_cmp);
        providers = gathered_in_order nat_list_cmp_total ties_are_equal virtual_of [] file.providers (rises_none byte_cmp);
        parents = All-weaker (HasEnds graph_in) (λ (e : Edge). HasNode graph_in e.parent) (λ e both. both.0) graph_in.edges ends;
        children = All-weaker (HasEnds graph_in) (λ (e : Edge). HasNode graph_in e.child) (λ e both. both.1) graph_in.edges ends;
        packages = all_gathered nat_list_cmp_total ties_are_equal virtual_of by [] file.providers (All-nil by)
            (All-weaker (λ (provider : Text × Text). Contains (node_names file.nodes) provider.1) by
            (λ provider there. has_name file.nodes graph_in node_found provider.1 there) file.providers provides);
      }

  graph_is : AreProvided file → IsGraphOf file graph_in
  graph_is provides = record {
    whole = whole provides;
    nodes = node_found;
    edges = λ ends. gathered_found pair_total pair_exact ends_of [] (all_edges file.nodes file.nodes) ends;
    providers = λ name. gathered_found nat_list_cmp_total ties_are_equal virtual_of [] file.providers name;
  }

  abbrev hashes_in : List (Text × Text)
  hashes_in = gathered byte_cmp (λ (h : Text × Text). h.0) [] (named_hashes file.nodes)

  hashes_are : AreHashesOf file.nodes hashes_in
  hashes_are = record {
    order =
        gathered_in_order nat_list_cmp_total ties_are_equal (λ (h : Text × Text). h.0) [] (named_hashes file.nodes) (rises_none byte_cmp);
    found = λ name. gathered_found nat_list_cmp_total ties_are_equal (λ (h : Text × Text). h.0) [] (named_hashes file.nodes) name;
  }

  abbrev lock_in : Lock
  lock_in = record { graph = graph_in; roots = file.roots; hashes = hashes_in; version = file.version }

-- ---- the bytes

-- something can be said of the bytes besides want of memory
abbrev IsSaid : List ℕ → Type 0
IsSaid bytes = ((lock : Lock) × IsLock bytes lock) ⊎ ((f : LockFault) × IsLockFault bytes f × (f ≢ fault.OutOfMemory))

module _ (bytes : List ℕ) (d : Data) (json : IsJson bytes d) where
  module _ (file : File) (is : file_at d ≡ Ok file) where
    by_children : twice_named file.nodes ≡ None → wrongly_hashed file.nodes ≡ None → (o : Option (Text × Text)) → dangling_in_file file ≡ o
        → IsSaid bytes
    by_children once same (Some p) e =
        inr (fault.Dangling p.0 p.1, inr (inr (d, json, inr (inr (file, is, (once, same, e))))), λ same. cc)
    by_children once same None e =
        inl (
          lock_in file,
          (
            d,
            json,
            (
              file,
              is,
              record {
                sound = record { named = once; hashed = same; known = e };
                graph = graph_is file (provided d file is);
                roots = refl;
                hashes = hashes_are file;
                version = refl;
              },
            ),
          ),
        )

    by_hashes : twice_named file.nodes ≡ None → (o : Option Record) → wrongly_hashed file.nodes ≡ o → IsSaid bytes
    by_hashes once (Some entry) e =
        inr (
          fault.HashDiffers entry.hash (right_hash entry),
          inr (inr (d, json, inr (inr (file, is, (once, (entry, e, refl, refl)))))),
          λ same. cc,
        )
    by_hashes once None e = by_children once e (dangling_in_file file) refl

    by_names : (o : Option Text) → twice_named file.nodes ≡ o → IsSaid bytes
    by_names (Some name) e = inr (fault.TwiceNamed name, inr (inr (d, json, inr (inr (file, is, e)))), λ same. cc)
    by_names None e = by_hashes e (wrongly_hashed file.nodes) refl

  by_value : (r : Result File Misfit) → file_at d ≡ r → IsSaid bytes
  by_value (Ok file) is = by_names file is (twice_named file.nodes) refl
  by_value (Err misfit) is = inr (fault.WrongKind misfit.at, inr (inr (d, json, inr (inl (misfit, is, refl)))), λ same. cc)

pub lock_said : (bytes : List ℕ) → IsSaid bytes
lock_said bytes = elim (json_or_none bytes) [
  | inl (d, json) ↦ by_value bytes d json (file_at d) refl
  | inr none ↦ inr (fault.NotJson, inr (inl (refl, none)), λ same. cc)
]
