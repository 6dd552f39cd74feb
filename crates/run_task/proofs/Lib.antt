pub mod One
pub mod Elements
pub mod ValidLocks
pub mod Acyclic
pub mod Reading
pub mod Next
pub mod Shown
mod Sayings
pub mod Accepted
pub mod Once
pub mod Paths
pub mod RootTexts
pub mod Stops
mod SeenTasks
mod Weaker
pub use Rattle.run_input.proofs.StageLaws
pub mod OneRoot
pub mod Checks
pub mod Posed
mod EachAccepted
