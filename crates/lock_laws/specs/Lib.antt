-- what public contracts say
pub mod Forms
