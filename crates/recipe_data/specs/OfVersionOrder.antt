-- What is passed on of `version_order`, so that the crates above need not name it.
pub use Rattle.graph_core.specs.OfVersionOrder.Sets
pub use Rattle.graph_core.specs.OfVersionOrder.Item
