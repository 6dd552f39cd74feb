pub mod Standing
pub mod Placing
pub mod Parting
pub mod Breaking
pub mod Reducing
pub mod Rounds
