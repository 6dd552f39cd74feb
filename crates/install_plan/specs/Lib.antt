-- what public contracts say
pub mod Schedules
pub mod Chains
pub mod Plans
-- what private ones say
pub mod Numbers
pub mod Children
pub mod Steps
