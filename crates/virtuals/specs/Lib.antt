-- what public contracts say
pub mod Virtuals
pub mod Provided
-- inside
pub mod Pairs
pub mod OfVariantValues
pub mod OfReachability
pub mod OfKeyedLists
pub mod OfGraphCore
pub mod OfConditions
