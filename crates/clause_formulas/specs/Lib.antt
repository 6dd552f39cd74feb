-- what public contracts say
pub mod Statements
pub mod Drafts
pub mod Gated
pub mod Values
pub mod Built
pub mod Allowed
pub mod Rules
pub mod Rows
-- what is inside
pub mod Codes
pub mod Kept
pub mod Nodes
pub mod Sizes
pub mod Few
