-- what public contracts say
pub mod Keyed
pub mod Given
pub mod Laws
pub mod OfVariantValues
pub mod OfReachability
pub mod Lent
