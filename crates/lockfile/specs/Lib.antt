-- what public contracts say
pub mod Files
pub mod Children
pub mod Faults
pub mod Locks
-- inside
pub mod Named
pub mod Again
pub mod Formed
pub mod Writable
