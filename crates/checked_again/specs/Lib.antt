-- what public contracts say
pub mod Again
