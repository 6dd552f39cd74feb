pub mod Words
pub mod Parts
pub mod Inputs
pub mod Locks
pub mod Accepted
pub mod Answered
