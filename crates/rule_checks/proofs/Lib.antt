pub mod VariantLists
pub mod Filters
mod AskedTexts
