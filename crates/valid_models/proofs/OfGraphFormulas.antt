-- What is passed on of `graph_formulas`, so that the crates above need not name it.
pub use Rattle.graph_formulas.proofs.AllVariants
