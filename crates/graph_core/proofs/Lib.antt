pub mod GivenLaws
pub mod GraphLaws
pub mod PairLaws
pub mod PathLaws
pub mod OfReachability
pub mod OfVariantValues
pub mod OfKeyedLists
