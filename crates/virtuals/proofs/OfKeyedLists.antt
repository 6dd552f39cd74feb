-- What is passed on of `keyed_lists`, so that the crates above need not name it.
pub use Rattle.recipe_data.proofs.OfKeyedLists.KeyedLaws
pub use Rattle.recipe_data.proofs.OfKeyedLists.RiseLaws
pub use Rattle.recipe_data.proofs.OfKeyedLists.TextLaws
