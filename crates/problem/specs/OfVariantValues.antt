-- What is passed on of `variant_values`, so that the crates above need not name it.
pub use Rattle.variant_values.specs.Texts
