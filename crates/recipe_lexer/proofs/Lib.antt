pub mod Strings
pub mod Stacks
pub mod Runs
pub mod Keeping
pub mod OrderLaws
pub mod FrontLaws
pub mod TokenLaws
pub mod WholeLaws
