pub mod Paths
pub mod Places
pub mod Searches
pub mod Laws
pub mod Bits
pub mod TextPlaces
