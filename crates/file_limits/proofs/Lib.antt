-- from bytes to values
mod Strings
mod Lexemes
mod Tokens
pub mod Texts
-- what is read of a value
pub mod Keys
pub mod Readers
pub mod Items
pub mod Parts
pub mod Drafts
pub mod Outcomes
pub mod Sums
pub mod Required
pub mod Externals
pub mod Lists
pub mod Whole
pub mod Sizes
pub mod TokenSizes
pub mod TokenCounts
pub mod StringSizes
pub mod ValueSizes
pub mod BracketSizes
pub mod ArgumentSizes
pub mod ShapeSizes
pub mod RowSizes
pub mod ItemSizes
pub mod FileSizes
pub mod OrderLaws
pub mod ValueLaws
pub mod RecordCounts
