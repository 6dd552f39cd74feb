-- What is passed on of `graph_core`, so that the crates above need not name it.
pub use Rattle.graph_core.specs.Graphs
pub use Rattle.graph_core.specs.Paths
pub use Rattle.graph_core.specs.declared.node.Compiler
pub use Rattle.graph_core.specs.declared.node.Edge
pub use Rattle.graph_core.specs.declared.node.Kinds
pub use Rattle.graph_core.specs.declared.node.Node
pub use Rattle.graph_core.specs.declared.node.Origin
pub use Rattle.graph_core.specs.declared.node.Origin.TheVariants as OriginVariants
