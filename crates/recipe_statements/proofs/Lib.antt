pub mod Joins
pub mod Tokens
pub mod StepLaws
pub mod NestLaws
pub mod LineLaws
pub mod OrderLaws
