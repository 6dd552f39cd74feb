pub mod Fewer
pub mod Sorts
pub mod Listed
pub mod Numbers
