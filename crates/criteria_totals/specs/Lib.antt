-- what public contracts say
pub mod Merges
pub mod Digits
pub mod Rows
pub mod Unary
pub mod Spellings
pub mod Totals
