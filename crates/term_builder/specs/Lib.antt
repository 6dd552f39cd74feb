-- no definitions of its own
-- what public contracts say
pub mod Tests
pub mod VariantTerms
pub mod Held
