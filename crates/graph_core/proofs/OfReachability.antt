-- What is passed on of `reachability`, so that the crates above need not name it.
pub use Rattle.keyed_lists.proofs.OfReachability.CountLaws
pub use Rattle.keyed_lists.proofs.OfReachability.HeadLaws
pub use Rattle.keyed_lists.proofs.OfReachability.SearchLaws
