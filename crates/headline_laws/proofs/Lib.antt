-- what the commands pose, and what is meant by their answers
pub mod Posed
pub mod Meant
pub mod Reached
