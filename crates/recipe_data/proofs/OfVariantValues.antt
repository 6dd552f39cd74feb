-- What is passed on of `variant_values`, so that the crates above need not name it.
pub use Rattle.graph_core.proofs.OfVariantValues.Keys
pub use Rattle.graph_core.proofs.OfVariantValues.Texts2 as Texts2
