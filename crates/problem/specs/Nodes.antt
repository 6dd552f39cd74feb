-- Words on nodes and kinds.
use Rattle.std.specs.Prelude.{Bool, true, false, ◌&&◌, ◌==◌, All}
use Rattle.std.specs.Str.{bytes_eq}
use Rattle.condition_rules.specs.OfVariantValues.Texts.{IsInByteOrder}
use Rattle.condition_rules.specs.OfGraphCore.Graphs.{Text, Content, IsGraph}
use Rattle.condition_rules.specs.OfGraphCore.Node.{Node}
use Rattle.condition_rules.specs.OfGraphCore.Kinds.{Kinds}
use Rattle.graph_core.specs.declared.node.Origin.{Origin}
use Rattle.condition_rules.specs.OfGraphCore.OriginVariants.{Built, External, Installed}
use Rattle.condition_rules.specs.Words.{implies}
pub use Rattle.graph_core.specs.Graphs.{has_kind, builds, is_built}

abbrev pub same_origin : Origin → Origin → Bool
same_origin Built Built = true
same_origin Built (External place) = false
same_origin Built (Installed hash) = false
same_origin (External place) Built = false
same_origin (External place) (External other) = place == other
same_origin (External place) (Installed hash) = false
same_origin (Installed hash) Built = false
same_origin (Installed hash) (External place) = false
same_origin (Installed hash) (Installed other) = bytes_eq hash other

-- the node is the installed one of this hash
abbrev pub is_installed : Text → Node → Bool
is_installed hash node = elim node.origin [ Built ↦ false | External place ↦ false | Installed h ↦ bytes_eq h hash ]

-- all kinds that are wanted are there
abbrev pub covers : Kinds → Kinds → Bool
covers kinds wanted = implies wanted.build kinds.build && implies wanted.link kinds.link && implies wanted.run kinds.run

-- what a value of type `Graph` is: a graph in which the values of each variant are a set, and the virtuals of each edge
pub record IsWellFormed (graph : Content) : Type 0 where
  pub is_graph : IsGraph graph
  pub values : All (λ node. All (λ v. IsInByteOrder v.1) node.variants) graph.nodes
  pub virtuals : All (λ edge. IsInByteOrder edge.virtuals) graph.edges
