-- What is passed on of `keyed_lists`, so that the crates above need not name it.
pub use Rattle.condition_rules.proofs.OfKeyedLists.KeyedLaws
pub use Rattle.condition_rules.proofs.OfKeyedLists.TextLaws
