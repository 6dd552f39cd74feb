pub mod Asked
pub mod Attempts
pub mod Headline
pub mod Logs
-- the exit status of each answer
pub use Rattle.run_output.specs.Exits
