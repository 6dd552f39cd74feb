-- What is passed on of `cost_terms`, so that the crates above need not name it.
pub use Rattle.cost_terms.specs.Ranges
