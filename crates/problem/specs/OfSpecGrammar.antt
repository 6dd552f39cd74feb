-- What is passed on of `spec_grammar`, so that the crates above need not name it.
pub use Rattle.condition_rules.specs.OfSpecGrammar.Spec
