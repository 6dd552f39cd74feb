-- what public contracts say
pub mod Answers
pub mod OfProblemEncoding
pub mod Verdicts
pub mod Explanations
pub mod Grounds
pub mod LeastLists
