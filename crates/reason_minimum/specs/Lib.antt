-- what public contracts say
pub mod Parts
pub mod Least
-- on the way
pub mod Reductions
