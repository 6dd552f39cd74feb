pub mod PairLaws
pub mod VirtualLaws
mod ProvidedLaws
pub mod OfVariantValues
pub mod OfReachability
pub mod OfKeyedLists
pub mod OfGraphCore
