pub mod Pointers
pub mod Maps
pub mod Raising
pub mod Steps
pub mod Once
