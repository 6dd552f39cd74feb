-- what public contracts say
pub mod Weights
pub mod WeightBounds
-- What public contracts say.
pub mod SpecSizes
pub mod SettingsSizes
pub mod Values
pub mod DatabaseSizes
