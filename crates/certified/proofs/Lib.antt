pub mod Shown
pub mod Feeding
pub mod Pieces
pub mod TextLaws
pub mod Stages
