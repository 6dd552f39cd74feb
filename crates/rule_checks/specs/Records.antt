-- A node and its record.
use Rattle.std.specs.Prelude.{Bool, ◌&&◌}
use Rattle.std.specs.List.{list_all}
use Rattle.graph_core.specs.Graphs.{Content, edges_from}
use Rattle.graph_core.specs.declared.node.Node.{Node}
use Rattle.problem.specs.Problems.{Problem}
use Rattle.problem.specs.Records.{kept_dependencies}
use Rattle.reuse_db.specs.declared.record.Record.{Record}
use Rattle.graph_rules.specs.Kept.{same_attributes, keeps_child, is_child}
use Rattle.reuse_db.specs.Installed.{installed_node}

-- the node is that of the record, with edges exactly to its link and run children
abbrev pub keeps_record : Problem → Content → Node → Record → Bool
keeps_record problem graph node entry =
    same_attributes node (installed_node entry)
    && list_all (keeps_child problem graph node.name) (kept_dependencies entry)
    && list_all (is_child problem entry) (edges_from graph node.name)
