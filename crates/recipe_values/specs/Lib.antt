pub mod Reads
pub mod Strings
pub mod Values
pub mod Brackets
pub mod Arguments
pub mod Worked
