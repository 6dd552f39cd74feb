-- What is passed on of `variant_values`, so that the crates above need not name it.
pub use Rattle.keyed_lists.proofs.OfVariantValues.Keys
pub use Rattle.keyed_lists.proofs.OfVariantValues.Texts2 as Texts2
