-- inside
pub mod Checked
pub mod Records
pub mod Kinds
pub mod Asked
