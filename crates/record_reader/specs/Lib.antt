pub mod Texts
pub mod Records
-- what public contracts say
pub mod Files
pub mod Faults
pub mod FaultTexts
