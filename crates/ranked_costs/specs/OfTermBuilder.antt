-- What is passed on of `term_builder`, so that the crates above need not name it.
pub use Rattle.term_builder.specs.Held
