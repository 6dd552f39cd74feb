-- What is passed on of `graph_core`, so that the crates above need not name it.
pub use Rattle.recipe_data.proofs.OfGraphCore.PathLaws
