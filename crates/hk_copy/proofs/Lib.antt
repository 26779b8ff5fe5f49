pub mod ReadingLaws
pub mod CopyLaws
pub mod CostLaws
pub mod ReachLaws
pub mod MakingLaws
pub mod StepLaws
pub mod ListLaws
pub mod TupleLaws
