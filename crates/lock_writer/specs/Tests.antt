-- The test for what can be written.
use Rattle.std.specs.Prelude.{Bool, true, not, ◌&&◌, List, is_some}
use Rattle.std.specs.List.{list_all}
use Rattle.std.specs.Str.{is_utf8}
use Rattle.spec_grammar.specs.Canonical.{spec_text, word_text}
use Rattle.spec_grammar.specs.declared.part.Spec.{Spec}
use Rattle.graph_core.specs.Graphs.{Content, node_of}
use Rattle.graph_core.specs.Paths.{reaches_in}
use Rattle.graph_core.specs.declared.node.Node.{Node}
use Rattle.graph_core.specs.declared.node.Origin.{Origin}
use Rattle.graph_core.specs.declared.node.Origin.TheVariants.{Built, External, Installed}
use Rattle.reuse_db.specs.Databases.{record_of}
use Rattle.reuse_db.specs.declared.record.Record.{Record}

abbrev pub is_recorded : List Record → Origin → Bool
is_recorded records Built = true
is_recorded records (External entry) = true
is_recorded records (Installed hash) = is_some (record_of records hash)

abbrev pub is_of_node : Content → Spec → Bool
is_of_node g root = is_some (node_of g (word_text root.top.name))

abbrev pub has_text : Spec → Bool
has_text root = is_utf8 (spec_text root)

-- the node is not on a cycle
abbrev pub is_off_cycles : Content → Node → Bool
is_off_cycles g node = not (reaches_in g node.name node.name)

abbrev pub can_be_written : Content → List Record → List Spec → Bool
can_be_written g records roots =
    list_all (λ node. is_recorded records node.origin) g.nodes && list_all (is_of_node g) roots && list_all has_text roots
    && list_all (is_off_cycles g) g.nodes
