pub mod Telling
pub mod Each
pub mod Items
pub mod Conditions
pub mod One
pub mod OneFile
pub mod Outcomes
pub mod Valued
