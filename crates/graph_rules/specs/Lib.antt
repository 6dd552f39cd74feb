-- what public contracts say
pub mod Built
pub mod Directives
pub mod Kept
pub mod Whole
pub mod Named
pub mod Valid
pub mod Verdict
pub mod Weights
pub mod Costs
pub mod Optimal
