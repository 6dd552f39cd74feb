-- What is passed on of `word_formulas`, so that the crates above need not name it.
pub use Rattle.word_formulas.proofs.Steps
