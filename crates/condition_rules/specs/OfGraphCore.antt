-- What is passed on of `graph_core`, so that the crates above need not name it.
pub use Rattle.virtuals.specs.OfGraphCore.Graphs
pub use Rattle.virtuals.specs.OfGraphCore.Paths
pub use Rattle.virtuals.specs.OfGraphCore.Compiler
pub use Rattle.virtuals.specs.OfGraphCore.Edge
pub use Rattle.virtuals.specs.OfGraphCore.Kinds
pub use Rattle.virtuals.specs.OfGraphCore.Node
pub use Rattle.virtuals.specs.OfGraphCore.Origin
pub use Rattle.virtuals.specs.OfGraphCore.OriginVariants as OriginVariants
