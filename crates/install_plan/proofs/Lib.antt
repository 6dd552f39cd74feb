pub mod NumberLaws
pub mod ChildLaws
pub mod EarliestLaws
pub mod WaveLaws
pub mod ChainLaws
pub mod Greatest
pub mod NumbersAlone
pub mod SettleLaws
