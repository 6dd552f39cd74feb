-- What is passed on of `variant_values`, so that the crates above need not name it.
pub use Rattle.virtuals.specs.OfVariantValues.Texts
