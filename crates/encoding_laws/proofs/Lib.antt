pub mod Budgets
pub mod EachProblem
pub mod Ordered
pub mod OrderedEncodings
