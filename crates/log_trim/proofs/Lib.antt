pub mod Marking
pub mod Trimming
pub mod Rooms
pub mod KindLaws
pub mod FoundLaws
