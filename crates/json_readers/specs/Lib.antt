pub mod Faults
pub mod Json
pub mod Texts
pub mod Lists
pub mod Objects
pub mod Maps
pub mod Sets
