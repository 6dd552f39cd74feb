pub mod Agreements
pub mod FileMaps
pub mod Listings
pub mod Tellings
pub mod Walks
pub mod Writings
