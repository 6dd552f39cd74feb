-- What is passed on of `variant_values`, so that the crates above need not name it.
pub use Rattle.keyed_lists.specs.OfVariantValues.Texts
pub use Rattle.keyed_lists.specs.OfVariantValues.VariantKind
pub use Rattle.keyed_lists.specs.OfVariantValues.VariantKindVariants as VariantKindVariants
