-- What is passed on of `reachability`, so that the crates above need not name it.
pub use Rattle.keyed_lists.specs.OfReachability.Paths
pub use Rattle.keyed_lists.specs.OfReachability.Places
