-- What is passed on of `problem_encoding`, so that the crates above need not name it.
pub use Rattle.problem_encoding.specs.Encodings
pub use Rattle.problem_encoding.specs.Built
pub use Rattle.problem_encoding.specs.OfTablePlan.Kept
pub use Rattle.problem.specs.Limits
pub use Rattle.problem_encoding.specs.declared.encoded.Encoded
