pub mod Tables
pub mod OfGraphDecoding
-- what public contracts say
pub mod Targets
pub mod Joined
pub mod Closures
