-- What is passed on of `keyed_lists`, so that the crates above need not name it.
pub use Rattle.graph_core.proofs.OfKeyedLists.KeyedLaws
pub use Rattle.graph_core.proofs.OfKeyedLists.RiseLaws
pub use Rattle.graph_core.proofs.OfKeyedLists.RunLaws
pub use Rattle.graph_core.proofs.OfKeyedLists.TextLaws
