pub mod OfVariantValues
pub mod OfKeyedLists
pub mod OfGraphCore
