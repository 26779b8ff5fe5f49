pub mod FileLaws
pub mod Sizes
pub mod Growing
pub mod Covering
pub mod StepLaws
pub mod SpanLaws
pub mod LoadLaws
pub mod TurnLaws
