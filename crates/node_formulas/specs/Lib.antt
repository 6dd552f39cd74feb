-- what public contracts say
pub mod Attributes
pub mod Rows
