-- What is passed on of `virtuals`, so that the crates above need not name it.
pub use Rattle.virtuals.specs.Virtuals
pub use Rattle.virtuals.specs.Provided
