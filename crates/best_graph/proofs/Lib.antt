pub mod Least
pub mod Found
pub mod Shown
mod Asked
pub mod ReasonsShown
pub mod LeastShown
