-- what public contracts say
pub mod Found
-- what private ones say
pub mod Orders
pub mod Marks
