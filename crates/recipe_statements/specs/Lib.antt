pub mod Lines
pub mod Blocks
pub mod Statements
pub mod Order
pub mod Inside
