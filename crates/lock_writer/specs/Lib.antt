-- what public contracts say
pub mod Hashes
pub mod Texts
-- inside
pub mod Known
pub mod Tests
