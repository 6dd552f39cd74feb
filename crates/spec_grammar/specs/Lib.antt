-- what contracts of public calls say
pub mod Signs
pub mod Keys
pub mod Items
pub mod Right
pub mod Meaning
pub mod Forms
pub mod Reading
pub mod Faults
pub mod Canonical
-- inside
pub mod Values
pub mod Locals
