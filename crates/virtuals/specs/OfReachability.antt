-- What is passed on of `reachability`, so that the crates above need not name it.
pub use Rattle.recipe_data.specs.OfGraphCore.Paths
pub use Rattle.recipe_data.specs.OfGraphCore.Places
