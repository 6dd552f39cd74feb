pub mod AskedPaths
mod Asking
mod Builders
mod Few
mod Named
mod Numbers
pub mod Lists
pub mod Plain
pub mod PlainTogether
mod Halves
pub mod Governing
pub mod OfWordFormulas
