-- what contracts of public calls say
pub mod Signs
pub mod Pieces
pub mod Component
pub mod Order
pub mod Prefix
pub mod Items
pub mod Sets
pub mod Fronts
pub mod Faults
-- what the readers of the grammar above cite of a LIST
pub mod Machine
pub mod Scan
-- inside
pub mod Cut
pub mod HeldRanks
