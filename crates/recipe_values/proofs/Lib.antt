pub mod Joins
pub mod Texts
pub mod Atoms
pub mod Digits
pub mod Segments
pub mod Tokens
