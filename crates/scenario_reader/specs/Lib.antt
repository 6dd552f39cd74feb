-- what public contracts say
pub mod Lines
pub mod Marks
pub mod Kinds
pub mod Texts
pub mod Quotes
pub mod Sections
pub mod Devices
pub mod Scenarios
pub mod Faults
