-- what public contracts say
pub mod Input
pub mod Counts
pub mod Composed
pub mod Encoding
pub mod Asserted
pub mod Laws
pub mod Rows
-- what is inside
pub mod Plan
pub mod Towards
