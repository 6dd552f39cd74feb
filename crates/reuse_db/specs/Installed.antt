-- The node that stands for a record.
use Rattle.graph_core.specs.declared.node.Node.{Node}
use Rattle.graph_core.specs.declared.node.Origin.TheVariants.{Installed}
use Rattle.reuse_db.specs.declared.record.Record.{Record}

-- it has the record's attributes, and is installed
unfoldable pub installed_node : Record → Node
installed_node entry = record {
  name = entry.name;
  version = entry.version;
  variants = entry.variants;
  compiler = entry.compiler;
  os = entry.os;
  target = entry.target;
  prefix = entry.external;
  origin = Installed entry.hash;
}
