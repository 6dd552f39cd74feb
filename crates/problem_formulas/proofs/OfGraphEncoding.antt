-- What is passed on of `graph_encoding`, so that the crates above need not name it.
pub use Rattle.graph_encoding.proofs.CallSteps
