-- What is passed on of `variant_values`, so that the crates above need not name it.
pub use Rattle.variant_values.proofs.Keys
pub use Rattle.variant_values.proofs.Texts as Texts2
