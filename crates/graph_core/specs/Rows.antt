-- Small graphs.
use Rattle.std.specs.Prelude.{[], ◌∷◌, None, true, false}
use Rattle.graph_core.specs.declared.node.Node.{Node}
use Rattle.graph_core.specs.declared.node.Edge.{Edge}
use Rattle.graph_core.specs.declared.node.Origin.TheVariants.{Built}
use Rattle.graph_core.specs.Graphs.{Text, Content}

-- a node of which only the name is told
abbrev pub node_named : Text → Node
node_named name = record { name = name; version = []; variants = []; compiler = None; os = []; target = []; prefix = None; origin = Built }

abbrev pub edge_between : Text → Text → Edge
edge_between parent child = record {
  parent = parent;
  child = child;
  kinds = record { build = false; link = true; run = false };
  virtuals = [];
}

-- nodes a, b and c, with edges from a to b and from b to c
abbrev pub row_of_three : Content
row_of_three = record {
  nodes = node_named (97 ∷ []) ∷ node_named (98 ∷ []) ∷ node_named (99 ∷ []) ∷ [];
  edges = edge_between (97 ∷ []) (98 ∷ []) ∷ edge_between (98 ∷ []) (99 ∷ []) ∷ [];
  providers = [];
}
