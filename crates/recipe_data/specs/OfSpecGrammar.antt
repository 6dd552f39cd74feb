-- What is passed on of `spec_grammar`, so that the crates above need not name it.
pub use Rattle.spec_grammar.specs.declared.part.Condition
pub use Rattle.spec_grammar.specs.declared.part.Part
pub use Rattle.spec_grammar.specs.declared.part.Spec
pub use Rattle.spec_grammar.specs.declared.part.TargetItem
