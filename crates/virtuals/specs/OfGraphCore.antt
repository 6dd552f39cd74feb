-- What is passed on of `graph_core`, so that the crates above need not name it.
pub use Rattle.recipe_data.specs.OfGraphCore.Graphs
pub use Rattle.recipe_data.specs.OfGraphCore.Paths2 as Paths
pub use Rattle.recipe_data.specs.OfGraphCore.Compiler
pub use Rattle.recipe_data.specs.OfGraphCore.Edge
pub use Rattle.recipe_data.specs.OfGraphCore.Kinds
pub use Rattle.recipe_data.specs.OfGraphCore.Node
pub use Rattle.recipe_data.specs.OfGraphCore.Origin
pub use Rattle.recipe_data.specs.OfGraphCore.OriginVariants as OriginVariants
