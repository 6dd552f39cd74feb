pub mod Draws
pub mod Recipes
pub mod Inputs
