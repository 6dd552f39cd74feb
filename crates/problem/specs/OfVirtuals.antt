-- What is passed on of `virtuals`, so that the crates above need not name it.
pub use Rattle.condition_rules.specs.OfVirtuals.Virtuals
