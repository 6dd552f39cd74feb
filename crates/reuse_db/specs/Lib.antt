-- what public contracts say
pub mod Canonical
pub mod Databases
pub mod Installed
