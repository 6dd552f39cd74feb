pub mod Alike
pub mod PlainRows
pub mod RowLaws
pub mod Same
pub mod Steps
