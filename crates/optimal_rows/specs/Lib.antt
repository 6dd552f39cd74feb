-- what public contracts say
pub mod Worked
