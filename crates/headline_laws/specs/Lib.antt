-- what public contracts say
pub mod Sentences
