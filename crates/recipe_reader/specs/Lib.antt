-- what contracts of public calls say
pub mod Results
pub mod Rows
pub mod Recipes
pub mod Files
pub mod Kept
