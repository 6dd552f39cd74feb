pub mod Numbers
pub mod Words
pub mod Reading
-- what is answered, for crates above
pub use Rattle.run_answers.specs.Exits
pub use Rattle.run_answers.specs.Lines
pub use Rattle.run_answers.specs.LockFault
pub use Rattle.run_answers.specs.Refusals
pub use Rattle.run_answers.specs.Reads
pub use Rattle.run_answers.specs.Stages
pub use Rattle.run_answers.specs.Stops
pub use Rattle.run_answers.specs.declared.refusal.Refusal
pub use Rattle.run_answers.specs.declared.status.Status
pub use Rattle.run_answers.specs.declared.stop.ReadStop
pub use Rattle.run_answers.specs.declared.stop.WriteStop
pub use Rattle.run_answers.specs.declared.stop.Stop
