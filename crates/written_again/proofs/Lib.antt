pub mod Puts
pub mod Roots
pub mod Written
