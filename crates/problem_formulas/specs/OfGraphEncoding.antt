-- What is passed on of `graph_encoding`, so that the crates above need not name it.
pub use Rattle.graph_encoding.specs.Best
pub use Rattle.graph_encoding.specs.Encodings
pub use Rattle.graph_encoding.specs.Formulas
pub use Rattle.graph_encoding.specs.Ranges
pub use Rattle.graph_encoding.specs.declared.calls.ProblemClauses
