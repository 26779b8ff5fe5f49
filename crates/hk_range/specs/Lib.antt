pub mod Ranges
pub mod Linear
pub mod Answers
pub mod Splits
