-- what contracts say
pub mod Ranks
-- inside
pub mod Terms
