-- what public contracts say
pub mod Targets
pub mod Faults
-- worked rows
pub mod Rows
