pub mod Numbers
pub mod Marking
pub mod Using
pub mod Refuting
pub mod Found
