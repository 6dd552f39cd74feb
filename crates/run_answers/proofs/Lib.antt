pub mod ReadOnly
pub mod StageLaws
