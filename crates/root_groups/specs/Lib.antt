-- what public contracts say
pub mod Checked
pub mod Solved
