pub mod Texts
pub mod PlaceLaws
pub mod RecordLaws
