-- What is passed on of `recipe_data`, so that the crates above need not name it.
pub use Rattle.virtuals.specs.OfConditions.Right
pub use Rattle.virtuals.specs.OfConditions.Condition
pub use Rattle.virtuals.specs.OfConditions.ConflictRow
pub use Rattle.virtuals.specs.OfConditions.DependRow
pub use Rattle.virtuals.specs.OfConditions.Recipe
pub use Rattle.virtuals.specs.OfConditions.RequireRow
pub use Rattle.virtuals.specs.OfConditions.VariantRow
pub use Rattle.virtuals.specs.OfConditions.VersionRow
