pub mod Joined
pub mod RowsSame
pub mod OfGraphEncoding
