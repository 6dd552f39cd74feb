-- What a graph that is written is read as.
use Rattle.std.specs.Prelude.{◌≡◌, List, map, All}
use Rattle.spec_grammar.specs.Canonical.{spec_text, word_text}
use Rattle.spec_grammar.specs.declared.part.Spec.{Spec}
use Rattle.json_texts.specs.Forms.{name_meaning}
use Rattle.graph_core.specs.Graphs.{Text, Content}
use Rattle.graph_core.specs.declared.node.Node.{Node}
use Rattle.record_reader.specs.Texts.{hash_meaning}
use Rattle.reuse_db.specs.declared.record.Record.{Record}
use Rattle.lock_writer.specs.Hashes.{node_hash, node_record}
use Rattle.lockfile.specs.Again.{Has, IsOwn, IsRecord, sorted}
use Rattle.lockfile.specs.declared.file.File.{File}
use Rattle.lockfile.specs.declared.node.LockedNode.{LockedNode}

abbrev pub locked : Content → List Record → Node → LockedNode
locked g records node = record { described = sorted (node_record g records node); origin = node.origin }

abbrev pub locked_root : Content → Spec → Text × Text
locked_root g root = (spec_text root, node_hash g (word_text root.top.name))

abbrev pub locked_file : Content → List Record → List Spec → File
locked_file g records roots = record {
  nodes = map (locked g records) g.nodes;
  providers = g.providers;
  roots = map (locked_root g) roots;
  version = 2;
}

-- the record of a node has its form, and its name and hash
pub record IsFormedNode (node : Node) (entry : Record) : Type 0 where
  pub form : IsRecord entry
  pub own : IsOwn node.origin entry.hash
  pub name : entry.name ≡ node.name

-- all that is written has its form
pub record IsFormed (g : Content) (records : List Record) (roots : List Spec) : Type 0 where
  pub nodes : All (λ node. IsFormedNode node (node_record g records node)) g.nodes
  pub virtuals : All (λ provider. Has name_meaning provider.0) g.providers
  pub hashes : All (λ root. Has hash_meaning (locked_root g root).1) roots
