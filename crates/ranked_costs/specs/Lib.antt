-- what public contracts say
pub mod Walks
pub mod Steps
pub mod Small
pub mod CostBits
pub mod Given
pub mod Ranked
pub mod Built
pub mod OfCostTerms
pub mod OfValidModels
pub mod OfTablePlan
pub mod OfTermBuilder
