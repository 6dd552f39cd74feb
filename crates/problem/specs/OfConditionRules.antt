-- What is passed on of `condition_rules`, so that the crates above need not name it.
pub use Rattle.condition_rules.specs.Holds
pub use Rattle.condition_rules.specs.Meets
pub use Rattle.condition_rules.specs.Words
pub use Rattle.condition_rules.specs.Worlds
