-- what public contracts of the layers above say
pub mod Right
pub mod OfSpecGrammar
pub mod OfVersionOrder
pub mod OfVariantValues
pub mod OfKeyedLists
pub mod OfGraphCore
