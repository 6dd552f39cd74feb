-- What is passed on of `version_order`, so that the crates above need not name it.
pub use Rattle.version_order.specs.Sets
pub use Rattle.version_order.specs.declared.item.Item
