-- what public contracts say
pub mod Texts
pub mod Choices
pub mod Labels
pub mod Sums
pub mod Clauses
-- inside
pub mod Signs
pub mod Meanings
pub mod Answers
pub mod Attempts
pub mod Faults
