-- what public contracts say
pub mod Graphs
pub mod Paths
pub mod Given
-- worked rows
pub mod Rows
pub mod OfReachability
pub mod OfVariantValues
pub mod OfVersionOrder
pub mod OfKeyedLists
