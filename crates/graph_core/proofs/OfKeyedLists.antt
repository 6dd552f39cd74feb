-- What is passed on of `keyed_lists`, so that the crates above need not name it.
pub use Rattle.keyed_lists.proofs.KeyedLaws
pub use Rattle.keyed_lists.proofs.RiseLaws
pub use Rattle.keyed_lists.proofs.RunLaws
pub use Rattle.keyed_lists.proofs.TextLaws
