-- what public contracts say
pub mod Places
