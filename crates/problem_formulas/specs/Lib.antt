-- what public contracts say
pub mod Asked
pub mod OfGraphEncoding
pub mod Given
pub mod Rows
pub mod OfGraphDecoding
