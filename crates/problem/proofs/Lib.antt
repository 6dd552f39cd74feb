pub mod AssembledLaws
pub mod NumberLaws
pub mod RequiredLaws
pub mod OfVariantValues
pub mod OfKeyedLists
mod DemandLaws
