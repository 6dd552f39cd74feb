pub mod Numbers
pub mod OneWord
pub mod Options
