-- What is passed on of `reachability`, so that the crates above need not name it.
pub use Rattle.reachability.proofs.CountLaws
pub use Rattle.reachability.proofs.HeadLaws
pub use Rattle.reachability.proofs.PathLaws
pub use Rattle.reachability.proofs.SearchLaws
pub use Rattle.reachability.proofs.SpreadLaws
pub use Rattle.reachability.proofs.TableLaws
