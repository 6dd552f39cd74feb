-- what public contracts say
pub mod Each
