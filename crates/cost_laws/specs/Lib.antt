-- what public contracts say
pub mod Words
