pub mod Whole
pub mod Ruled
pub mod Same
pub mod Lengths
