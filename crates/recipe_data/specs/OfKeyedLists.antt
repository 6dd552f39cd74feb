-- What is passed on of `keyed_lists`, so that the crates above need not name it.
pub use Rattle.graph_core.specs.OfKeyedLists.Keyed
