-- What is passed on of `graph_core`, so that the crates above need not name it.
pub use Rattle.graph_core.proofs.OfReachability.CountLaws
pub use Rattle.graph_core.proofs.OfReachability.HeadLaws
pub use Rattle.graph_core.proofs.OfReachability.SearchLaws
pub use Rattle.graph_core.proofs.PairLaws
pub use Rattle.graph_core.proofs.PathLaws
