-- inside
pub mod Asked
pub mod Judging
pub mod Places
pub mod Rows
pub mod Answered
