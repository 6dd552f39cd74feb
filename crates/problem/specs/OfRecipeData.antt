-- What is passed on of `recipe_data`, so that the crates above need not name it.
pub use Rattle.recipe_data.specs.Right
pub use Rattle.recipe_data.specs.declared.recipe.ConflictRow
pub use Rattle.recipe_data.specs.declared.recipe.DependRow
pub use Rattle.recipe_data.specs.declared.recipe.ProvideRow
pub use Rattle.recipe_data.specs.declared.recipe.Recipe
pub use Rattle.recipe_data.specs.declared.recipe.RequireRow
pub use Rattle.recipe_data.specs.declared.recipe.VariantRow
