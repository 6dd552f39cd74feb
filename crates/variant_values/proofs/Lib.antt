pub mod Keys
pub mod Many
pub mod Texts
