-- What is passed on of `table_plan`, so that the crates above need not name it.
pub use Rattle.table_plan.specs.Kept
