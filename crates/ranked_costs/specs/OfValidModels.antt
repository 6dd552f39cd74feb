-- What is passed on of `valid_models`, so that the crates above need not name it.
pub use Rattle.valid_models.specs.Closures
pub use Rattle.valid_models.specs.Joined
pub use Rattle.valid_models.specs.Targets
pub use Rattle.valid_models.specs.Tables
