-- what public contracts say
pub mod Encodings
pub mod Built
pub mod OfTablePlan
