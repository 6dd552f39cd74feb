pub mod DifferSteps
pub mod Pushed
pub mod Later
pub mod Whole
pub mod Assembled
