pub mod Lists
pub mod AskedLaws
pub mod NamedLaws
pub mod BrokenPlaces
pub mod AmongDemands
