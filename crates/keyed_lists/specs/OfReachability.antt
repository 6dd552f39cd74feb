-- What is passed on of `reachability`, so that the crates above need not name it.
pub use Rattle.reachability.specs.Paths
pub use Rattle.reachability.specs.Places
