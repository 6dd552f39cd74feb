pub mod OrderLaws
pub mod LinkLaws
pub mod MarkLaws
pub mod FoundLaws
