-- What is passed on of `keyed_lists`, so that the crates above need not name it.
pub use Rattle.virtuals.proofs.OfKeyedLists.KeyedLaws
pub use Rattle.virtuals.proofs.OfKeyedLists.RiseLaws
pub use Rattle.virtuals.proofs.OfKeyedLists.TextLaws
