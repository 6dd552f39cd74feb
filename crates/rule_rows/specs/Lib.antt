pub mod Build
pub mod Rows
pub mod Broken
pub mod Naming
pub mod Together
