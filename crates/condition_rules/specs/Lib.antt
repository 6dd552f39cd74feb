-- what public contracts say
pub mod Words
pub mod Worlds
pub mod Meets
pub mod Holds
-- what private ones say
pub mod Below
pub mod OfVariantValues
pub mod OfSpecGrammar
pub mod OfKeyedLists
pub mod OfGraphCore
pub mod OfConditions
pub mod OfVirtuals
