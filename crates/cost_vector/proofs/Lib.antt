pub mod RankLaws
pub mod IndexLaws
pub mod Totals
pub mod Filled
pub mod Halves
