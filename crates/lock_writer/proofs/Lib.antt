pub mod DepthLaws
pub mod Floats
pub mod HashLaws
pub mod KnownLaws
pub mod LineFeeds
pub mod TestLaws
